-- the writes so far and those in the slots left are all
use Rattle.std.proofs.Common.{◌≡◌, ◌++◌, drop}
use Rattle.intervals.specs.Operation.{writes}
use Rattle.intervals.specs.Table.{ops_in_slots}
use Rattle.register_book.proofs.around.writes_in.Given as goal

abbrev pub invariant-loop-slot : goal.invariant-loop-slot
invariant-loop-slot l = l.writes.items ++ writes (ops_in_slots (drop l.slot-index l.slots)) ≡ writes (ops_in_slots l.slots)
