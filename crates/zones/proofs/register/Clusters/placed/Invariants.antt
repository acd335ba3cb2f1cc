-- what is placed so far and the operations that are left give all
use Rattle.std.proofs.Common.{◌≡◌, ◌++◌, map, drop}
use Rattle.intervals.specs.Operation.{judged}
use Rattle.intervals.specs.Table.{ops_in_slots}
use Rattle.zones.specs.AtFirst.{start_of}
use Rattle.zones.specs.Order.{placed_of}
use Rattle.zones.proofs.register.Clusters.placed.Given as goal

abbrev pub invariant-loop-slot : goal.invariant-loop-slot
invariant-loop-slot l =
    l.placed.items ++ map (placed_of (start_of l.self.claim l.self.ops) l.self.ops) (judged (ops_in_slots (drop l.slot-index l.slots)))
    ≡ map (placed_of (start_of l.self.claim l.self.ops) l.self.ops) (judged (ops_in_slots l.slots))
