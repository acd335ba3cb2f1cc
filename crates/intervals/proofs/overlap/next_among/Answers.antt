use Rattle.std.proofs.Common.{◌≡◌, ◌+◌, List, Option, Some, None, sym, subst, rules}
use Rattle.intervals.specs.declared.operation.Op.{Op}
use Rattle.intervals.specs.InTurn.{IsNextWrite}
use Rattle.intervals.specs.Table.{slot_at}
use Rattle.intervals.proofs.Fronts.{front_of, front_on, front_over}
use Rattle.intervals.proofs.InTurn.{next_still, next_with}
use Rattle.intervals.proofs.overlap.next_among.Goals.{in-Some+then-comes_sooner, in-Some+else-comes_sooner, in_default}
use Rattle.intervals.proofs.overlap.next_among.Goals as goal

pub loop-slot-preserved : goal.loop-slot-preserved
loop-slot-preserved c =
    let slots = c.args.slots.now in
    let after = c.args.after in
    let k = c.loop-slot.slot-index in
    let so_far = c.loop-slot.next in
    let held = c.loop-slot.invariant in
    elim c.match-slot.branch [
      | in-Some+then-comes_sooner w ↦
          let op = w.in-Some.op in
          let at : slot_at slots k ≡ Some op = search rules in
          subst (λ (next : Option Op). IsNextWrite (front_of slots (k + 1)) after next) (sym w.next-is)
          (front_on (λ (ops : List Op). IsNextWrite ops after (Some op)) slots k op at (next_with (front_of slots k) after op so_far held (w.comes_sooner.ensures.sooner w.if-comes_sooner.true)))
      | in-Some+else-comes_sooner w ↦
          let op = w.in-Some.op in
          let at : slot_at slots k ≡ Some op = search rules in
          subst (λ (next : Option Op). IsNextWrite (front_of slots (k + 1)) after next) (sym w.next-is)
          (front_on (λ (ops : List Op). IsNextWrite ops after so_far) slots k op at (next_still (front_of slots k) after op so_far held (w.comes_sooner.ensures.not w.if-comes_sooner.false)))
      | in_default w ↦
          let at : slot_at slots k ≡ None = search rules in
          subst (λ (next : Option Op). IsNextWrite (front_of slots (k + 1)) after next) (sym w.next-is) (front_over (λ (ops : List Op). IsNextWrite ops after so_far) slots k at held)
    ]
