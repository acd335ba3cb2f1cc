-- the operations so far and those in the slots left are all operations
use Rattle.std.proofs.Common.{◌≡◌, ◌++◌, drop}
use Rattle.intervals.specs.Table.{ops_in_slots}
use Rattle.timeline.proofs.choice.standing_in.Given as goal

abbrev pub invariant-loop-slot : goal.invariant-loop-slot
invariant-loop-slot l = l.ops.items ++ ops_in_slots (drop l.slot-index l.slots) ≡ ops_in_slots l.slots
