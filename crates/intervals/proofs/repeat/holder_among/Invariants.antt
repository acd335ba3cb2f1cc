-- no operation so far is another write of the value
use Rattle.std.proofs.Common.{◌≡◌}
use Rattle.std.specs.Prelude.{drop, find}
use Rattle.intervals.specs.Refusal.{is_holder}
use Rattle.intervals.specs.Table.{ops_in_slots}
use Rattle.intervals.proofs.repeat.holder_among.Given as goal

abbrev pub invariant-loop-slot : goal.invariant-loop-slot
invariant-loop-slot l = find (is_holder l.op) (ops_in_slots l.slots) ≡ find (is_holder l.op) (ops_in_slots (drop l.slot-index l.slots))
