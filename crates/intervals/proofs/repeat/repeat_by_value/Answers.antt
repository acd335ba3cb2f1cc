use Rattle.std.proofs.Common.{◌≡◌, ◌+◌, Some, None, Ok, sym, subst, ◌∙◌, rules, ap}
use Rattle.intervals.specs.declared.ordered_index.OrderedIndex.{OrderedIndex}
use Rattle.intervals.specs.FirstWrites.{AreFirst}
use Rattle.intervals.specs.Table.{slot_at}
use Rattle.intervals.specs.Terms.{terms_of}
use Rattle.intervals.proofs.Fronts.{front_of}
use Rattle.intervals.proofs.Repeats.{first_on, first_over, new_at, walked_on, walked_over, walked_to}
use Rattle.intervals.proofs.repeat.repeat_by_value.Goals.{in-Some+in_ok-repeat+in_default-2, in_default}
use Rattle.intervals.proofs.repeat.repeat_by_value.Goals as goal

pub returns-in-Some-2 : goal.returns-in-Some-2
returns-in-Some-2 c =
    let claim = terms_of c.args.claim.now in
    let slots = c.args.slots.now in
    let k = c.loop-slot.slot-index in
    let op = c.in-Some.op in
    let at : slot_at slots k ≡ Some op = search rules in
    let held = c.loop-slot.invariant in
    sym (walked_to claim slots k op c.in-Some-2.repeat held.walked at
    (sym (c.in_ok-repeat.ensures.repeat (front_of slots k) held.first (new_at slots k op c.requires at)) ∙ c.in-Some-2.is))

pub loop-slot-preserved : goal.loop-slot-preserved
loop-slot-preserved c =
    let claim = terms_of c.args.claim.now in
    let slots = c.args.slots.now in
    let k = c.loop-slot.slot-index in
    let held = c.loop-slot.invariant in
    elim c.match-slot.branch [
      | in-Some+in_ok-repeat+in_default-2 w ↦
          let at : slot_at slots k ≡ Some w.in-Some.op = search rules in
          let none = w.in_default-2.is in
          record {
            walked = walked_on claim slots k w.in-Some.op held.walked at
                (sym (w.in_ok-repeat.ensures.repeat (front_of slots k) held.first (new_at slots k w.in-Some.op c.requires at)) ∙ none);
            first = subst (λ (shelf : OrderedIndex). AreFirst shelf (front_of slots (k + 1))) (sym w.first-is)
                (first_on w.repeat_of.new.first slots k w.in-Some.op at (w.in_ok-repeat.ensures.first (front_of slots k) held.first (ap Ok none)));
          }
      | in_default w ↦
          let at : slot_at slots k ≡ None = search rules in
          record {
            walked = walked_over claim slots k held.walked at;
            first = subst (λ (shelf : OrderedIndex). AreFirst shelf (front_of slots (k + 1))) (sym w.first-is) (first_over c.loop-slot.first slots k at held.first);
          }
    ]
