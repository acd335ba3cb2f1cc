use Rattle.std.proofs.Common.{◌≡◌, Some, None, sym, ◌∙◌, rules}
use Rattle.intervals.specs.Refusal.{holder_of}
use Rattle.intervals.specs.Table.{slot_at}
use Rattle.intervals.specs.Terms.{terms_of}
use Rattle.intervals.proofs.Fronts.{front_of}
use Rattle.intervals.proofs.Repeats.{walked_on, walked_over, write_without, no_write_repeats}
use Rattle.intervals.proofs.repeat.repeat_by_pairs.Goals.{in-Some+then-is_write+in_default-holder_among, in-Some+else-is_write, in_default}
use Rattle.intervals.proofs.repeat.repeat_by_pairs.Goals as goal

pub loop-place-preserved : goal.loop-place-preserved
loop-place-preserved c =
    let claim = terms_of c.args.claim.now in
    let slots = c.args.slots.now in
    let place = c.loop-place.place in
    let walked = c.loop-place.invariant in
    elim c.match-slots-place.branch [
      | in-Some+then-is_write+in_default-holder_among w ↦
          let at : slot_at slots place ≡ Some w.in-Some.op = search rules in
          let none : holder_of claim (front_of slots place) w.in-Some.op ≡ None = search rules in
          walked_on claim slots place w.in-Some.op walked at (write_without claim (front_of slots place) w.in-Some.op (sym w.is_write.ensures ∙ w.if-is_write.true) none)
      | in-Some+else-is_write w ↦
          let at : slot_at slots place ≡ Some w.in-Some.op = search rules in
          walked_on claim slots place w.in-Some.op walked at (no_write_repeats claim (front_of slots place) w.in-Some.op (sym w.is_write.ensures ∙ w.if-is_write.false))
      | in_default w ↦
          let at : slot_at slots place ≡ None = search rules in
          walked_over claim slots place walked at
    ]
