-- The index of the writes by beginning; no public clause uses these words.
use Rattle.std.specs.Prelude.{◌≡◌, ◌≢◌, ◌⊎◌, true, List, Contains, Option, Some, None, IfSome, is_some, if◌then◌else◌}
use Rattle.intervals.specs.declared.operation.Op.{Op}
use Rattle.intervals.specs.declared.operation.OpId.{OpId}
use Rattle.intervals.specs.declared.operation.Moment.{Moment}
use Rattle.intervals.specs.declared.operation.Value.TheVariants.{Nil}
use Rattle.intervals.specs.declared.ordered_index.Spot.{Spot}
use Rattle.intervals.specs.declared.ordered_index.OrderedIndex.{OrderedIndex}
use Rattle.intervals.specs.Operation.{IsWrite, is_write}
use Rattle.intervals.specs.Edit.{op_of}
use Rattle.intervals.specs.OrderedIndex.{place_at, id_at, is_spot, spot_of}
use Rattle.safe_regular.specs.declared.writes.Writes.{Writes}
use Rattle.safe_regular.specs.Index.{IsIndex}

-- the id that the index has at the moment, or none
abbrev pub id_by_begin : Writes → Moment → Option OpId
id_by_begin writes moment = id_at writes.begins (spot_of Nil moment)

-- the index has each write of the list at its beginning, and nothing else
abbrev pub AreWrites : List Op → Writes → Type 0
AreWrites ops writes = IsIndex ops (id_by_begin writes)

-- the spot of an operation in the index: its beginning, or none where it is no write
abbrev pub spot_by_begin : Op → Option Spot
spot_by_begin op = if is_write op then Some (spot_of Nil op.begin) else None

-- the spot of an optional operation in the index: its beginning, or none where there is no write
abbrev pub spot_by_begin_in : Option Op → Option Spot
spot_by_begin_in None = None
spot_by_begin_in (Some op) = spot_by_begin op

-- each empty place of the index is that of the optional operation
abbrev pub ReservesOnlyForWrite : Option Op → Writes → Type 0
ReservesOnlyForWrite op writes = (spot : Spot) → place_at writes.begins spot ≡ Some None → is_spot (spot_by_begin_in op) spot ≡ true

-- the index has a place at the optional spot, with an id or empty; this holds where there is no spot
abbrev pub HasPlace : OrderedIndex → Option Spot → Type 0
HasPlace shelf spot = IfSome spot (λ s. is_some (place_at shelf s) ≡ true)

-- the index has a place at the beginning of the operation, if that is a write
abbrev pub HasPlaceFor : Op → Writes → Type 0
HasPlaceFor op writes = HasPlace writes.begins (spot_by_begin op)

-- the index has a place at the beginning of the optional operation, if that is a write
abbrev pub HasPlaceIn : Option Op → Writes → Type 0
HasPlaceIn op writes = IfSome op (λ o. HasPlaceFor o writes)

-- the writes of `ops` are those of `others`, and op where it is a write; then each of the others begins at another
-- moment than op
pub record IsAdded (others : List Op) (op : Op) (ops : List Op) : Type 0 where
  pub added : IsWrite op → Contains ops op
  pub kept : (v : Op) → IsWrite v → Contains others v → Contains ops v
  pub only : (v : Op) → IsWrite v → Contains ops v → Contains others v ⊎ (v ≡ op)
  pub apart : IsWrite op → (v : Op) → Contains others v → IsWrite v → v.begin.0 ≢ op.begin.0

-- both lists have the same writes
pub record HaveSameWrites (others ops : List Op) : Type 0 where
  pub kept : (v : Op) → IsWrite v → Contains others v → Contains ops v
  pub only : (v : Op) → IsWrite v → Contains ops v → Contains others v

-- the writes of `ops` are those of `others`, and the optional operation where that is a write
abbrev pub IsAddedOf : List Op → Option Op → List Op → Type 0
IsAddedOf others None ops = HaveSameWrites others ops
IsAddedOf others (Some op) ops = IsAdded others op ops

-- both are writes of one id and beginning, so that the index has them at the same spot
pub record StandAlike (old new : Op) : Type 0 where
  pub old_writes : IsWrite old
  pub new_writes : IsWrite new
  pub id : old.id ≡ new.id
  pub begin : old.begin ≡ new.begin

-- both optional operations are there, and they are writes of one id and beginning
abbrev pub StandAlikeIn : Option Op → Option Op → Type 0
StandAlikeIn old new = (o n : Op) × (old ≡ Some o) × (new ≡ Some n) × StandAlike o n

-- the operation of the id that a look-up found, or none
abbrev pub op_of_found : List Op → Option (Moment × OpId) → Option Op
op_of_found ops None = None
op_of_found ops (Some found) = op_of ops found.1
