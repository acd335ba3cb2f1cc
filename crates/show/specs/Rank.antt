-- The place of an operation in an order that explains the reads.
use Rattle.std.specs.Prelude.{◌≡◌, ℕ, List, Option}
use Rattle.std.specs.List.{position_from}
use Rattle.std.specs.HashMap.{HashMap, get}
use Rattle.intervals.specs.declared.operation.OpId.{OpId}
use Rattle.intervals.specs.Operation.{same_id}

-- the place of an operation in an order, from 1; none where it is not in the order
abbrev pub rank_of : List OpId → OpId → Option ℕ
rank_of order id = position_from (λ other. same_id other id) 1 order

-- the map has the place of each operation of the order, and of no other
abbrev pub ArePlaces : {S : Type 0} → List OpId → HashMap OpId ℕ S → Type 0
ArePlaces order places = (id : OpId) → get same_id places id ≡ rank_of order id
