-- the places so far and those of the operations left are all
use Rattle.std.proofs.Common.{◌≡◌, ◌++◌, drop, map}
use Rattle.std.specs.HashMap.{get}
use Rattle.intervals.specs.declared.operation.Op.{Op}
use Rattle.intervals.specs.Operation.{same_id}
use Rattle.show.proofs.rank.ranks_in.Given as goal

abbrev pub invariant-loop-op : goal.invariant-loop-op
invariant-loop-op l = l.ranks.items ++ map (λ (op : Op). get same_id l.places op.id) (drop l.op-index l.ops) ≡ map (λ (op : Op). get same_id l.places op.id) l.ops
