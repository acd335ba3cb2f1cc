use Rattle.std.proofs.Common.{ℕ, List, ◌≡◌, ◌∙◌, ◌+◌, ◌≤◌, ap, arith, length, subst}
use Rattle.std.specs.Prelude.{slice_index}
use Rattle.std.specs.List.{AllWithin}
use Rattle.timeline.specs.declared.place.Want.{Want}
use Rattle.timeline.specs.Place.{IsBounded, IsPutBefore, before}
use Rattle.timeline.proofs.Placing.{placed_more, tight_by}
use Rattle.timeline.proofs.place.place_all.Goals as goal

pub loop-number-preserved : goal.loop-number-preserved
loop-number-preserved c =
    let steps = c.args.steps.now in
    let wants = c.args.wants.now in
    let places = c.loop-number.places.items in
    let number = c.loop-number.number in
    let next = c.loop-number.next in
    let end = c.end_of-end.result in
    let place = c.farthest.result in
    let none : Want = record { from = 0; to = 0; least = 0 } in
    let placed = c.loop-number.invariant.placed in
    let first : c.deref.result.now ≡ places = c.deref.ensures.value in
    let second : c.deref-in-loop-number.result.now ≡ places = c.deref-in-loop-number.ensures.value in
    let least : c.following-least.result ≡ before places number + slice_index steps number =
    c.following-least.ensures.value ∙ ap (λ (ps : List ℕ). before ps (length ps) + slice_index steps number) first ∙ ap (λ (n : ℕ). before places n + slice_index steps number) placed.many in
    let bounded : IsBounded number place = subst (λ (n : ℕ). IsBounded n place) (ap length second ∙ placed.many) c.farthest.ensures.bounded in
    let following : before places number + slice_index steps number ≤ place = omega (arith, least, c.farthest.ensures.following) in
    let put : AllWithin (IsPutBefore places place) wants next end = subst (λ (ps : List ℕ). AllWithin (IsPutBefore ps place) wants next end) second c.farthest.ensures.kept in
    record {
      within = omega (arith, c.loop-number-test.true);
      next = c.end_of-end.ensures.within.1;
      placed = placed_more steps places wants number next end place none placed c.requires.within c.end_of-end.ensures.within c.end_of-end.ensures.here c.push.new.self.items c.in_ok-push.ensures.items bounded following put (tight_by places c.deref-in-loop-number.result.now wants next end place c.following-least.result (before places number + slice_index steps number) second least c.farthest.ensures.tight) c.end_of-end.ensures.left;
    }
