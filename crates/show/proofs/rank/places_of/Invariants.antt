-- the ids that are done have their places
use Rattle.std.proofs.Common.{◌≡◌, ◌≤◌, ◌+◌, drop, length}
use Rattle.std.specs.List.{position_from}
use Rattle.std.specs.HashMap.{get}
use Rattle.intervals.specs.declared.operation.OpId.{OpId}
use Rattle.intervals.specs.Operation.{same_id}
use Rattle.show.proofs.rank.places_of.Given as goal

abbrev pub invariant-loop-place : goal.invariant-loop-place
invariant-loop-place l = record {
  within : l.place ≤ length l.order;
  done : (id : OpId) → get same_id l.places id ≡ position_from (λ (other : OpId). same_id other id) (l.place + 1) (drop l.place l.order);
}

abbrev pub decreases-loop-place : goal.decreases-loop-place
decreases-loop-place l = l.place
