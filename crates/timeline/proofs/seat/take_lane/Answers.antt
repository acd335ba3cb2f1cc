use Rattle.std.proofs.Common.{ℕ, [], ◌∷◌, ◌++◌, ◌≡◌, ◌<◌, ◌≤◌, ◌∙◌, ap, arith, length, sym}
use Rattle.std.proofs.lemmas.Option.{slice_get_past}
use Rattle.timeline.specs.declared.seat.Tail.{Tail}
use Rattle.timeline.specs.Seat.{put, tail_of}
use Rattle.timeline.proofs.Seating.{put_last, put_over}
use Rattle.timeline.proofs.seat.take_lane.Goals as goal

pub returns-in-Some-clause-after : goal.returns-in-Some-clause-after
returns-in-Some-clause-after c =
    let tails = c.args.tails.now.items in
    let within : c.in-Some.lane < length tails = omega (arith, c.in-Some.ensures.bound, c.iter.ensures.len, c.deref.ensures.len) in
    put_over tails c.in-Some.lane c.tail_of-tail.result within ∙ ap (put tails c.in-Some.lane) c.tail_of-tail.ensures

pub returns-in_ok-push-in-None-clause-free : goal.returns-in_ok-push-in-None-clause-free
returns-in_ok-push-in-None-clause-free c =
    let following : length c.args.tails.now.items ≤ c.len-lane.result = omega (arith, c.len-lane.ensures) in
    rw (slice_get_past c.args.tails.now.items c.len-lane.result following) tt

pub returns-in_ok-push-in-None-clause-after : goal.returns-in_ok-push-in-None-clause-after
returns-in_ok-push-in-None-clause-after c =
    let tails = c.args.tails.now.items in
    let tail = tail_of c.args.op.now c.args.number in
    let last : length tails ≡ c.len-lane.result = omega (arith, c.len-lane.ensures) in
    c.in_ok-push-in-None.ensures.items ∙ ap (λ (t : Tail). tails ++ t ∷ []) c.tail_of-tail.ensures ∙ sym (put_last tails tail) ∙ ap (λ (n : ℕ). put tails n tail) last
