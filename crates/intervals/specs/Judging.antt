-- What safe and regular registers promise, as tests that compute, and the first read that fails one.
use Rattle.std.specs.Prelude.{ℕ, Bool, true, not, ◌&&◌, ◌||◌, ◌==◌, nat_lt, List, [], ◌∷◌, Option, Some, None, if◌then◌else◌}
use Rattle.std.specs.List.{list_any}
use Rattle.std.specs.Option.{option_map_or}
use Rattle.intervals.specs.declared.operation.Op.{Op}
use Rattle.intervals.specs.declared.operation.Moment.{Moment}
use Rattle.intervals.specs.declared.operation.Value.{Value}
use Rattle.intervals.specs.Terms.{ClaimModel}
use Rattle.intervals.specs.declared.claim.Kind.{Kind}
use Rattle.intervals.specs.declared.claim.Kind.TheVariants.{Safe, Regular, Atomic}
use Rattle.intervals.specs.Operation.{precedes, overlaps, is_write, is_judged_read, value_of, same_value}
use Rattle.intervals.specs.Least.{least_by}

-- whether the second operation is a write that precedes the first
abbrev pub is_write_before : Op → Op → Bool
is_write_before r w = is_write w && precedes w r

-- whether the operation begins after the optional moment found so far; always where none was found
abbrev pub is_later : Op → Option Moment → Bool
is_later w None = true
is_later w (Some found) = nat_lt found.0 w.begin.0

-- the later of the optional beginning found so far and that of the operation, if this is a write that precedes the read
abbrev pub later_begin : Op → Option Moment → Op → Option Moment
later_begin r found w = if is_write_before r w && is_later w found then Some w.begin else found

-- the latest of the optional beginning found so far and the beginnings of the list's writes that precede the read
abbrev pub last_from : Op → Option Moment → List Op → Option Moment
last_from r found [] = found
last_from r found (w ∷ ops) = last_from r (later_begin r found w) ops

-- the beginning of the last write that precedes the read, or none where no write does
abbrev pub last_before : List Op → Op → Option Moment
last_before ops r = last_from r None ops

-- whether the operation is a write that precedes the read, begins at the moment, and has the value of the read
abbrev pub is_returned_at : Op → Moment → Op → Bool
is_returned_at r begin w = is_write_before r w && ((w.begin.0 == begin.0) && same_value (value_of w.act) (value_of r.act))

-- whether the read returns the value of a write that precedes it and begins at the optional moment, or the initial
-- value where there is no moment
abbrev pub returns_of : Value → List Op → Op → Option Moment → Bool
returns_of initial ops r None = same_value initial (value_of r.act)
returns_of initial ops r (Some begin) = list_any (is_returned_at r begin) ops

-- the test for `ReturnsLast`: the read returns the value of the last write that precedes it, or else the initial value
abbrev pub returns_last : Value → List Op → Op → Bool
returns_last initial ops r = returns_of initial ops r (last_before ops r)

-- whether the second operation is a write that overlaps the first
abbrev pub is_write_over : Op → Op → Bool
is_write_over r w = is_write w && overlaps w r

-- the test for `OverlapsWrite`: some write of the list overlaps the read
abbrev pub overlaps_write : List Op → Op → Bool
overlaps_write ops r = list_any (is_write_over r) ops

-- the test for `IsAllowed`: the value is in the optional domain or is the initial one, or there is no domain
abbrev pub is_allowed : Option (List Value) → Value → Value → Bool
is_allowed None initial value = true
is_allowed (Some values) initial value = list_any (λ v. same_value v value) values || same_value initial value

-- the test for `IsSafeRead`: the read is right on a safe register
abbrev pub is_safe_read : ClaimModel → List Op → Op → Bool
is_safe_read claim ops r =
    if overlaps_write ops r
    then is_allowed claim.domain claim.initial (value_of r.act)
    else returns_last claim.initial ops r

-- whether the second operation is a write that overlaps the first, and has the value of the first
abbrev pub is_returned_over : Op → Op → Bool
is_returned_over r w = is_write_over r w && same_value (value_of w.act) (value_of r.act)

-- the test for `IsRegularRead`: the read is right on a regular register
abbrev pub is_regular_read : ClaimModel → List Op → Op → Bool
is_regular_read claim ops r = list_any (is_returned_over r) ops || returns_last claim.initial ops r

-- whether the read is right on a register of this kind; always on an atomic one, whose operations are judged together
abbrev pub is_right_read : Kind → ClaimModel → List Op → Op → Bool
is_right_read Safe claim ops r = is_safe_read claim ops r
is_right_read Regular claim ops r = is_regular_read claim ops r
is_right_read Atomic claim ops r = true

-- whether the operation is a read that has an end and is not right on a register of the claimed kind
abbrev pub is_wrong_read : ClaimModel → List Op → Op → Bool
is_wrong_read claim ops r = is_judged_read r && not (is_right_read claim.kind claim ops r)

-- the number of the moment at which the operation ended, 0 where it has no end
abbrev pub end_number : Op → ℕ
end_number op = option_map_or (λ (end : Moment). end.0) op.end 0

-- of the wrong reads (`is_wrong_read`) the one that ended first, or none where no read is wrong
abbrev pub first_wrong : ClaimModel → List Op → Option Op
first_wrong claim ops = least_by end_number (is_wrong_read claim ops) ops
