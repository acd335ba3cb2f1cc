-- The three ways in which an atomic register fails, and what it is to fail in none.
use Rattle.std.specs.Prelude.{◌≡◌, ◌≢◌, ◌≤◌, Bool, not, ◌&&◌, List, All, Any, Contains, Option, Some, None, option_map, find}
use Rattle.std.specs.List.{list_any}
use Rattle.intervals.specs.declared.operation.Op.{Op}
use Rattle.intervals.specs.declared.operation.Value.{Value}
use Rattle.intervals.specs.Operation.{Precedes, IsWrite, IsJudgedRead, value_of, same_value, is_write, is_judged_read, precedes}
use Rattle.intervals.specs.Least.{least_by}
use Rattle.intervals.specs.Judging.{end_number}
use Rattle.zone_tree.specs.Conflict.{IsClean}
use Rattle.zones.specs.Cluster.{zones_of}

-- an unwritten read: a judged read of a value that is neither the initial one nor that of a write
pub record IsUnwritten (initial : Value) (ops : List Op) (r : Op) : Type 0 where
  pub read : IsJudgedRead r
  pub not_initial : value_of r.act ≢ initial
  pub not_written : All (λ w. IsWrite w → value_of w.act ≢ value_of r.act) ops

-- r is an early read: a judged read that ends before w, a write of its value, begins
pub record IsEarly (r w : Op) : Type 0 where
  pub read : IsJudgedRead r
  pub write : IsWrite w
  pub one_value : value_of w.act ≡ value_of r.act
  pub ends_before : Precedes r w

-- a judged read that ends before some write of its value begins
abbrev pub HasLateWrite : List Op → Op → Type 0
HasLateWrite ops r = Any (λ w. IsEarly r w) ops

-- one of the operations that has the property, and no operation with the property ended before it
pub record IsFirstOf (Property : Op → Type 0) (ops : List Op) (r : Op) : Type 0 where
  pub present : Contains ops r
  pub holds : Property r
  pub first : All (λ other. Property other → end_number r ≤ end_number other) ops

-- from this initial value no read is unwritten, none is early, and no two zones conflict
pub record IsFaultless (initial : Value) (ops : List Op) : Type 0 where
  pub written : All (λ r. ¬ IsUnwritten initial ops r) ops
  pub timely : All (λ r. All (λ w. ¬ IsEarly r w) ops) ops
  pub clean : IsClean (zones_of initial ops)

-- w is a write of the value of r
abbrev pub is_write_of : Op → Op → Bool
is_write_of r w = is_write w && same_value (value_of w.act) (value_of r.act)

-- the test for `IsUnwritten`
abbrev pub is_unwritten : Value → List Op → Op → Bool
is_unwritten initial ops r = is_judged_read r && (not (same_value initial (value_of r.act)) && not (list_any (is_write_of r) ops))

-- the unwritten read that ended first, or none
abbrev pub first_unwritten : Value → List Op → Option Op
first_unwritten initial ops = least_by end_number (is_unwritten initial ops) ops

-- w is a write of the value of r and begins after r has ended
abbrev pub is_late_for : Op → Op → Bool
is_late_for r w = is_write_of r w && precedes r w

-- the test for `HasLateWrite`
abbrev pub is_early : List Op → Op → Bool
is_early ops r = is_judged_read r && list_any (is_late_for r) ops

-- an optional read with the write of its value that begins after it has ended; none where either is missing
abbrev pub with_late_write : List Op → Option Op → Option (Op × Op)
with_late_write ops None = None
with_late_write ops (Some r) = option_map (λ w. (r, w)) (find (is_late_for r) ops)

-- the early read that ended first, with the write of its value that begins later; or none
abbrev pub first_early : List Op → Option (Op × Op)
first_early ops = with_late_write ops (least_by end_number (is_early ops) ops)
