-- What a register held at first: the known value, or where nobody knows it the one that its reads show.
use Rattle.std.specs.Prelude.{◌≢◌, ℕ, ◌+◌, suc, nat_abs, Bool, not, ◌&&◌, pos, List, [], ◌∷◌, Contains, Option, Some, None, option_map, is_some, if◌then◌else◌}
use Rattle.std.specs.List.{list_any}
use Rattle.intervals.specs.declared.operation.Op.{Op}
use Rattle.intervals.specs.declared.operation.Value.{Value}
use Rattle.intervals.specs.declared.operation.Value.TheVariants.{Nil, Int}
use Rattle.intervals.specs.Terms.{ClaimModel, RegisterState}
use Rattle.intervals.specs.Operation.{IsJudgedRead, is_judged_read, value_of, same_value}
use Rattle.intervals.specs.Refusal.{is_initial}
use Rattle.intervals.specs.Standing.{IsInitial}
use Rattle.intervals.specs.Kind.{HasNoWrite}
use Rattle.intervals.specs.Least.{least_by}
use Rattle.intervals.specs.Judging.{end_number}
use Rattle.zones.specs.Fault.{is_write_of, first_unwritten}

-- a writeless read: a judged read of a value that no write carries and that is not known to be the initial one
pub record IsWriteless (claim : ClaimModel) (ops : List Op) (r : Op) : Type 0 where
  pub read : IsJudgedRead r
  pub not_initial : ¬ IsInitial claim (value_of r.act)
  pub not_written : HasNoWrite ops (value_of r.act)

-- a split: two writeless reads (`IsWriteless`) of different values
pub record IsSplit (claim : ClaimModel) (ops : List Op) (a b : Op) : Type 0 where
  pub a_present : Contains ops a
  pub b_present : Contains ops b
  pub one : IsWriteless claim ops a
  pub other : IsWriteless claim ops b
  pub apart : value_of b.act ≢ value_of a.act

-- the test for `IsWriteless`
abbrev pub is_writeless : ClaimModel → List Op → Op → Bool
is_writeless claim ops r = is_judged_read r && (not (is_initial claim (value_of r.act)) && not (list_any (is_write_of r) ops))

-- the writeless read that ended first, or none
abbrev pub first_writeless : ClaimModel → List Op → Option Op
first_writeless claim ops = least_by end_number (is_writeless claim ops) ops

-- of the writeless reads of another value than this one the read that ended first, or none
abbrev pub first_writeless_but : Value → ClaimModel → List Op → Option Op
first_writeless_but value claim ops = least_by end_number (λ r. is_writeless claim ops r && not (same_value (value_of r.act) value)) ops

-- an optional writeless read with the first one of another value; none where either is missing
abbrev pub with_other : ClaimModel → List Op → Option Op → Option (Op × Op)
with_other claim ops None = None
with_other claim ops (Some a) = option_map (λ b. (a, b)) (first_writeless_but (value_of a.act) claim ops)

-- where nobody knows the initial value: the writeless read that ended first, with the one that ended first of those of
-- another value; or none
abbrev pub first_split : ClaimModel → List Op → Option (Op × Op)
first_split claim ops = if claim.known then None else with_other claim ops (first_writeless claim ops)

-- where the initial value is known: of the judged reads whose value is neither it nor written the one that ended first,
-- or none
abbrev pub unwritten_of : ClaimModel → List Op → Option Op
unwritten_of claim ops = if claim.known then first_unwritten claim.initial ops else None

-- the value of an optional writeless read, where no writeless read returns another value; else none
abbrev pub sole_of : ClaimModel → List Op → Option Op → Option Value
sole_of claim ops None = None
sole_of claim ops (Some a) = if is_some (first_writeless_but (value_of a.act) claim ops) then None else Some (value_of a.act)

-- the initial value: the known one; else the one that all writeless reads return, or none where there are no such reads
-- or they differ
abbrev pub initial_of : ClaimModel → List Op → Option Value
initial_of claim ops = if claim.known then Some claim.initial else sole_of claim ops (first_writeless claim ops)

-- the size of a value: 0 for nil, |n| + 1 for the number n
unfoldable pub size_of : Value → ℕ
size_of Nil = 0
size_of (Int n) = suc (nat_abs n)

-- the sum of the sizes of the values that operations read or write
unfoldable pub size_of_all : List Op → ℕ
size_of_all [] = 0
size_of_all (op ∷ ops) = size_of (value_of op.act) + size_of_all ops

-- a whole number that no operation reads or writes: the sum of the sizes of their values
unfoldable pub unused_value : List Op → Value
unused_value ops = Int (pos (size_of_all ops))

-- an optional value, or one that no operation has where there is none
abbrev pub or_fresh : List Op → Option Value → Value
or_fresh ops None = unused_value ops
or_fresh ops (Some value) = value

-- the value that the register begins with: the initial value (`initial_of`), or one that no operation has where there
-- is none
abbrev pub start_of : ClaimModel → List Op → Value
start_of claim ops = or_fresh ops (initial_of claim ops)

-- the claim with the value that the register begins with (`start_of`) as its initial value
abbrev pub with_start : RegisterState → ClaimModel
with_start held = record held.claim { initial = start_of held.claim held.ops }
