use Rattle.std.proofs.Common.{◌≡◌, ◌+◌, Some, None, sym, subst, rules}
use Rattle.intervals.specs.declared.ordered_index.OrderedIndex.{OrderedIndex}
use Rattle.intervals.specs.InTurn.{AreWritesByBegin}
use Rattle.intervals.specs.Table.{slot_at}
use Rattle.intervals.proofs.Fronts.{front_of, front_on, front_over}
use Rattle.intervals.proofs.overlap.writes_in_turn.Goals.{in-Some+in_ok-put_in_turn, in_default}
use Rattle.intervals.proofs.overlap.writes_in_turn.Goals as goal

pub loop-slot-preserved : goal.loop-slot-preserved
loop-slot-preserved c =
    let slots = c.args.slots.now in
    let k = c.loop-slot.slot-index in
    let held = c.loop-slot.invariant in
    elim c.match-slot.branch [
      | in-Some+in_ok-put_in_turn w ↦
          let op = w.in-Some.op in
          let at : slot_at slots k ≡ Some op = search rules in
          subst (λ (turn : OrderedIndex). AreWritesByBegin turn (front_of slots (k + 1))) (sym w.turn-is) (front_on (AreWritesByBegin w.put_in_turn.new.turn) slots k op at (w.in_ok-put_in_turn.ensures (front_of slots k) held))
      | in_default w ↦
          let at : slot_at slots k ≡ None = search rules in
          subst (λ (turn : OrderedIndex). AreWritesByBegin turn (front_of slots (k + 1))) (sym w.turn-is) (front_over (AreWritesByBegin c.loop-slot.turn) slots k at held)
    ]
