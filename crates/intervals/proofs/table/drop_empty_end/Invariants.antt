-- the operations left are those at the beginning, each in its slot
use Rattle.std.proofs.Common.{◌≡◌, ◌≤◌, ℕ}
use Rattle.std.specs.Prelude.{vec_len, vec_capacity}
use Rattle.intervals.specs.Table.{ops_in_slots, slot_at}
use Rattle.intervals.proofs.table.drop_empty_end.Given as goal

abbrev pub invariant-loop-slots : goal.invariant-loop-slots
invariant-loop-slots l = record {
  same : ops_in_slots l.slots.items ≡ ops_in_slots l.fn.slots.items;
  at : (i : ℕ) → slot_at l.slots.items i ≡ slot_at l.fn.slots.items i;
  len : vec_len l.slots ≤ vec_len l.fn.slots;
  capacity : vec_capacity l.slots ≡ vec_capacity l.fn.slots;
}

abbrev pub decreases-loop-slots : goal.decreases-loop-slots
decreases-loop-slots l = goal.left-loop-slots l
