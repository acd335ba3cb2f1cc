-- Values at fault, and their stretches: where the first read ended, whether a write has the value. For private clauses.
use Rattle.std.specs.Prelude.{◌≡◌, ◌&&◌, Contains, List, Option, Some, None, IsNone, IsSome, IfSome, is_some, map, filter, find}
use Rattle.intervals.specs.declared.operation.Op.{Op}
use Rattle.intervals.specs.declared.operation.Moment.{Moment}
use Rattle.intervals.specs.declared.operation.Value.{Value}
use Rattle.intervals.specs.Moments.{same_moment}
use Rattle.intervals.specs.Operation.{IsJudgedRead, is_judged_read, is_write, value_of, same_value}
use Rattle.intervals.specs.Standing.{IsInitial}
use Rattle.intervals.specs.Terms.{ClaimModel}
use Rattle.zone_tree.specs.declared.stretch.Stretch.{Stretch}
use Rattle.zone_tree.specs.StretchOrder.{moment_before}
use Rattle.zone_tree.specs.declared.edge.Edge.{Edge}
use Rattle.zone_tree.specs.declared.edge.Edge.TheVariants.{Before, At, Never}
use Rattle.zone_tree.specs.Edge.{ComesBefore}
use Rattle.zones.specs.Cluster.{interval_of, has_value, least_end_in}
use Rattle.zones.specs.Moves.{AreChanges, AreNew, Shape}

-- the judged reads of a value
abbrev pub reads_of : List Op → Value → List Op
reads_of ops value = filter (has_value value) (filter is_judged_read ops)

-- the end of the judged read of the value that ended first; `Never` where there is none
abbrev pub first_end_of : List Op → Value → Edge
first_end_of ops value = least_end_in (map interval_of (reads_of ops value))

-- where an optional write begins; `Never` where there is none
abbrev pub begin_of_write : Option Op → Edge
begin_of_write None = Never
begin_of_write (Some w) = At w.begin

-- the write of the value, or none
abbrev pub write_of : List Op → Value → Option Op
write_of ops value = find (λ w. is_write w && same_value (value_of w.act) value) ops

-- the moment of an edge; moment 0 for `Before` and `Never`
abbrev pub edge_moment : Edge → Moment
edge_moment Before = record { 0 = 0 }
edge_moment (At m) = m
edge_moment Never = record { 0 = 0 }

-- the stretch of a value: the end of the judged read that ended first, and whether some write has the value
abbrev pub stretch_of : List Op → Value → Stretch
stretch_of ops value = record { end = edge_moment (first_end_of ops value); written = is_some (write_of ops value); value = value }

-- some judged read has the value
abbrev pub IsRead : List Op → Value → Type 0
IsRead ops value = (r : Op) × Contains ops r × IsJudgedRead r × (value_of r.act ≡ value)

-- a value at fault: some judged read of it ended before its write begins, or it has no write; and it is not known to be
-- the initial value
pub record IsAtFault (claim : ClaimModel) (ops : List Op) (value : Value) : Type 0 where
  pub read : IsRead ops value
  pub not_initial : ¬ IsInitial claim value
  pub before : ComesBefore (first_end_of ops value) (begin_of_write (write_of ops value))

-- the stretches are those of the values at fault, and no others
pub record AreStretched (claim : ClaimModel) (ops : List Op) (stretches : List Stretch) : Type 0 where
  pub each : (value : Value) → IsAtFault claim ops value → Contains stretches (stretch_of ops value)
  pub only : (stretch : Stretch) → Contains stretches stretch → IsAtFault claim ops stretch.value × (stretch ≡ stretch_of ops stretch.value)

-- the optional stretch is that of the value, and there is one exactly where the value is at fault
pub record IsStretchAt (claim : ClaimModel) (ops : List Op) (value : Value) (found : Option Stretch) : Type 0 where
  pub stretch : IfSome found (λ stretch. stretch ≡ stretch_of ops value)
  pub none : IsNone found → ¬ IsAtFault claim ops value
  pub some : IsSome found → IsAtFault claim ops value

-- the optional stretch is that of the optional value (`IsStretchAt`); none where there is no value
abbrev pub IsStretchAtSome : ClaimModel → List Op → Option Value → Option Stretch → Type 0
IsStretchAtSome claim ops None found = found ≡ None
IsStretchAtSome claim ops (Some value) found = IsStretchAt claim ops value found

-- the two optional stretches are those of two optional values (`IsStretchAt`)
pub record AreStretchesAt (claim : ClaimModel) (ops : List Op) (first second : Option Value) (found : Option Stretch × Option Stretch) : Type 0 where
  pub one : IsStretchAtSome claim ops first found.0
  pub other : IsStretchAtSome claim ops second found.1

-- stretches as the items of a tree: the key is the end, and each may be there
abbrev pub stretch_shape : Shape Stretch Moment
stretch_shape = record { key = λ s. s.end; before = moment_before; same = same_moment; value = λ s. s.value; MayStand = λ s. Unit {0} }

-- two optional stretches can be exchanged for two others, whichever of them stay: what comes is new (`AreNew`)
abbrev pub CanStretch : List Stretch → Option Stretch × Option Stretch → Option Stretch × Option Stretch → Type 0
CanStretch stretches before after = (gone come : Option Stretch × Option Stretch) → AreChanges before after gone come → AreNew stretch_shape stretches gone come
