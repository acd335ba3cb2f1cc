-- The two indexes of the judged reads of each value: by end, and by beginning. For private clauses alone.
use Rattle.std.specs.Prelude.{◌≡◌, ◌≤◌, true, false, Contains, List, Option, Some, None, IfSome, is_some, if◌then◌else◌}
use Rattle.intervals.specs.declared.operation.Op.{Op}
use Rattle.intervals.specs.declared.operation.OpId.{OpId}
use Rattle.intervals.specs.declared.operation.Moment.{Moment}
use Rattle.intervals.specs.declared.operation.Value.{Value}
use Rattle.intervals.specs.declared.ordered_index.Spot.{Spot}
use Rattle.intervals.specs.declared.ordered_index.OrderedIndex.{OrderedIndex}
use Rattle.intervals.specs.Operation.{is_write, value_of}
use Rattle.intervals.specs.OrderedIndex.{place_at, id_at, is_spot, spot_of}
use Rattle.zones.specs.declared.index.IndexKind.{IndexKind}
use Rattle.zones.specs.declared.index.IndexKind.TheVariants.{Ends, Begins}
use Rattle.zones.specs.declared.index.Members.{Members}

-- the least moment, which is 0
abbrev pub at_first : Moment
at_first = record { 0 = 0 }

-- the spot of a read by its end: value and end, or none where it has no end
abbrev pub by_end : Value → Option Moment → Option Spot
by_end value None = None
by_end value (Some end) = Some (spot_of value end)

-- the spot of a read by its beginning: value and beginning, or none where it has no end
abbrev pub by_begin : Value → Moment → Option Moment → Option Spot
by_begin value begin None = None
by_begin value begin (Some end) = Some (spot_of value begin)

-- the spot of an operation in the index of that kind; none for a write and for a read that has no end
abbrev pub spot_on : IndexKind → Op → Option Spot
spot_on Ends op = if is_write op then None else by_end (value_of op.act) op.end
spot_on Begins op = if is_write op then None else by_begin (value_of op.act) op.begin op.end

-- the greatest moment, which is 2^64 - 1
abbrev pub at_last : Moment
at_last = record { 0 = 18446744073709551615 }

-- the optional spot has a moment of at most 2^64 - 1
abbrev pub IsInTime : Option Spot → Type 0
IsInTime spot = IfSome spot (λ s. s.moment.0 ≤ at_last.0)

-- the index of that kind has the id of each operation that has a spot there, at that spot, and no other id; all moments
-- in it are at most 2^64 - 1
pub record IsShelfOf (row : IndexKind) (ops : List Op) (shelf : OrderedIndex) : Type 0 where
  pub there : (op : Op) (spot : Spot) → Contains ops op → spot_on row op ≡ Some spot → id_at shelf spot ≡ Some op.id
  pub back : (spot : Spot) (id : OpId) → id_at shelf spot ≡ Some id → (op : Op) × Contains ops op × (op.id ≡ id) × (spot_on row op ≡ Some spot)
  pub in_time : (spot : Spot) (id : OpId) → id_at shelf spot ≡ Some id → IsInTime (Some spot)

-- the index of that kind
abbrev pub shelf_of : Members → IndexKind → OrderedIndex
shelf_of members Ends = members.ends
shelf_of members Begins = members.begins

-- both indexes have the ids of the operations, each at its spot, and no others
abbrev pub AreMembers : List Op → Members → Type 0
AreMembers ops members = (row : IndexKind) → IsShelfOf row ops (shelf_of members row)

-- both indexes have a place at the spot of the operation
abbrev pub HasPlaces : Op → Members → Type 0
HasPlaces op members = (row : IndexKind) (spot : Spot) → spot_on row op ≡ Some spot → is_some (place_at (shelf_of members row) spot) ≡ true

-- both indexes have a place at the spot of the optional operation
abbrev pub HasPlacesOf : Option Op → Members → Type 0
HasPlacesOf op members = IfSome op (λ op. HasPlaces op members)

-- each spot of each index has what it had before
abbrev pub HaveSamePlaces : Members → Members → Type 0
HaveSamePlaces before after = (row : IndexKind) (spot : Spot) → place_at (shelf_of after row) spot ≡ place_at (shelf_of before row) spot

-- the spot of an optional operation in the index of that kind, or none
abbrev pub spot_in : IndexKind → Option Op → Option Spot
spot_in row None = None
spot_in row (Some op) = spot_on row op

-- each place without an id is at the spot of the optional operation
abbrev pub ReservesOnlyForMember : Option Op → Members → Type 0
ReservesOnlyForMember op members = (row : IndexKind) (spot : Spot) → place_at (shelf_of members row) spot ≡ Some None → is_spot (spot_in row op) spot ≡ true

-- the index has a place at the optional spot
abbrev pub HasPlaceAt : OrderedIndex → Option Spot → Type 0
HasPlaceAt shelf spot = IfSome spot (λ s. is_some (place_at shelf s) ≡ true)

-- both optional spots are one spot, and the index has the id there
abbrev pub IsStill : OrderedIndex → Option Spot → Option Spot → OpId → Type 0
IsStill shelf spot place id = (s : Spot) × (spot ≡ Some s) × (place ≡ Some s) × (place_at shelf s ≡ Some (Some id))

-- a place was made at the optional spot `made`, which had none, and no other place changed
pub record IsMade (before after : OrderedIndex) (made : Option Spot) : Type 0 where
  pub new : IfSome made (λ s. place_at before s ≡ None)
  pub others : (other : Spot) → is_spot made other ≡ false → place_at after other ≡ place_at before other

-- what is at `other` once the id at `spot` is taken out: the place is dropped too, unless it is the one at `held`
abbrev pub taken_at : Option Spot → Option Spot → Spot → Option (Option OpId) → Option (Option OpId)
taken_at spot held other found = if is_spot spot other then (if is_spot held other then Some None else None) else found

-- what is at `other` once the id is put at `spot`
abbrev pub placed_at : Option Spot → OpId → Spot → Option (Option OpId) → Option (Option OpId)
placed_at spot id other found = if is_spot spot other then Some (Some id) else found

-- what is at `other` in the index of that kind once the optional operation is put in
abbrev pub come_at : IndexKind → Option Op → Spot → Option (Option OpId) → Option (Option OpId)
come_at row None other found = found
come_at row (Some op) other found = placed_at (spot_on row op) op.id other found
