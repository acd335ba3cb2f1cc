-- the first so far and those in the slots left give the first of all
use Rattle.std.proofs.Common.{◌≡◌, drop, true}
use Rattle.intervals.specs.declared.operation.Op.{Op}
use Rattle.intervals.specs.Least.{least_from}
use Rattle.intervals.specs.Table.{ops_in_slots}
use Rattle.show.specs.Scene.{first_to_begin}
use Rattle.show.proofs.scene.first_of.Given as goal

abbrev pub invariant-loop-slot : goal.invariant-loop-slot
invariant-loop-slot l = least_from (λ (op : Op). op.begin.0) (λ op. true) l.first (ops_in_slots (drop l.slot-index l.slots)) ≡ first_to_begin (ops_in_slots l.slots)
