-- What the failure of a register rests on: elements that were left out and touch the operations that show it.
use Rattle.std.specs.Prelude.{◌≡◌, ◌<◌, ◌⊎◌, Any, IsTrue, length, ℕ, ◌+◌, ◌==◌, ◌&&◌, ◌||◌, Bool, true, false, List, [], ◌∷◌, ◌++◌, flat_map, Option, Some, None, if◌then◌else◌}
use Rattle.std.specs.Option.{option_map_or}
use Rattle.std.specs.List.{list_any, slice_get}
use Rattle.intervals.specs.declared.operation.Op.{Op}
use Rattle.intervals.specs.declared.operation.OpId.{OpId}
use Rattle.intervals.specs.declared.operation.Value.{Value}
use Rattle.intervals.specs.Operation.{same_id, same_value, value_of}
use Rattle.jepsen_form.specs.declared.gist.Written.{Written}
use Rattle.jepsen_form.specs.declared.gist.Written.TheVariants.{Nothing, Known, Unread}
use Rattle.pairing.specs.declared.about.About.{About}
use Rattle.register_book.specs.declared.fault.Witness.{Witness}
use Rattle.register_book.specs.Fault.{operations_in, ops_in_roles, roles_of}
use Rattle.shards.specs.declared.entry.VerdictChange.{VerdictChange}
use Rattle.logs.specs.declared.log.Line.{Line}
use Rattle.logs.specs.declared.log.Log.{Log}
use Rattle.logs.specs.declared.log.What.{What}
use Rattle.logs.specs.declared.log.What.TheVariants.{Refused, Answered}
use Rattle.report.specs.declared.doubt.Doubt.{Doubt}
use Rattle.report.specs.declared.finding.Finding.{Finding}

-- ---- one element and one operation

-- an element would have written this value, where it can be read
abbrev pub would_write : Value → Written → Bool
would_write value Nothing = false
would_write value (Known written) = same_value written value
would_write value Unread = false

-- an element would have written a value that cannot be read
abbrev pub is_unread : Written → Bool
is_unread Nothing = false
is_unread (Known value) = false
is_unread Unread = true

-- an element answers or edits the operation of this id
abbrev pub is_of_operation : OpId → Option OpId → Bool
is_of_operation id None = false
is_of_operation id (Some edited) = same_id edited id

-- an element touches an operation: it answers or edits it, or it would have written the value that this read or wrote
abbrev pub touches : About → Op → Bool
touches about op = is_of_operation op.id about.operation || would_write (value_of op.act) about.written

-- ---- one element and a failure

-- what these operations show rests on an element: it touches one of them, its value cannot be read, or it claims a kind
abbrev pub touches_one : List Op → About → Bool
touches_one ops about = about.claims || is_unread about.written || list_any (touches about) ops

-- the failure of a register, if it fails, rests on an element of that register, by the operations that show it
abbrev pub rests_on : Option Witness → About → Bool
rests_on None about = false
rests_on (Some witness) about = touches_one (ops_in_roles (roles_of witness)) about

-- an element answers or edits the operation in a slot, if there is one
abbrev pub is_slot_of : Option OpId → Option OpId → Bool
is_slot_of operation None = false
is_slot_of operation (Some id) = is_of_operation id operation

-- an element would have written the value in a slot, if there is one
abbrev pub is_value_of : Written → Option Value → Bool
is_value_of written None = false
is_value_of written (Some value) = would_write value written

-- the failure of a register, if it fails, rests on an element of that register, by the change of the verdict that tells of
-- it: the element claims a kind, its value cannot be read, it answers or edits an operation of the fault, or it would have
-- written a value that one of them read or wrote
abbrev pub change_rests_on : VerdictChange → About → Bool
change_rests_on change about =
    option_map_or (λ fault. about.claims || is_unread about.written || list_any (is_slot_of about.operation) (operations_in fault) || list_any (is_value_of about.written) change.values) change.fault false

-- an element is of the register of this number
abbrev pub is_about : ℕ → About → Bool
is_about number about = option_map_or (λ register. register.0 == number) about.register false

-- ---- the same in words

-- an element touches an operation: it answers or edits it, or it would have written the value that this read or wrote
abbrev pub Touches : About → Op → Type 0
Touches about op = (about.operation ≡ Some op.id) ⊎ (about.written ≡ Known (value_of op.act))

-- what these operations show rests on an element of their register: it claims a kind, what it would have written cannot be
-- read, or it touches one of them
abbrev pub RestsOn : List Op → About → Type 0
RestsOn ops about = (IsTrue about.claims ⊎ (about.written ≡ Unread)) ⊎ Any (Touches about) ops

-- ---- the elements that were left out

-- the place of an element that was left out, by the number of its trace and its place there, where the test holds of what
-- it is about
abbrev pub place_left : (About → Bool) → ℕ × ℕ → What → List (ℕ × ℕ)
place_left test at (Refused left_out) = if test left_out.about then at ∷ [] else []
place_left test at (Answered register answer) = []

-- the same of a log line of the trace of this number
abbrev pub left_at : (About → Bool) → ℕ → Line → List (ℕ × ℕ)
left_at test feeder line = place_left test (feeder, line.event) line.what

-- the places of the elements of a trace that were left out and of which the test holds
abbrev pub left_in : (About → Bool) → ℕ → Log → List (ℕ × ℕ)
left_in test feeder log = flat_map (left_at test feeder) log.lines.items

-- the same of several traces, of which the first has this number
abbrev pub left_from : (About → Bool) → ℕ → List Log → List (ℕ × ℕ)
left_from test feeder [] = []
left_from test feeder (log ∷ logs) = left_in test feeder log ++ left_from test (feeder + 1) logs

-- the elements that were left out and are of the register of this number
abbrev pub left_out_of : ℕ → List Log → List (ℕ × ℕ)
left_out_of number logs = left_from (is_about number) 0 logs

-- an element is of the register of this number, and the failure that the witness shows rests on it
abbrev pub is_rested_on : ℕ → Option Witness → About → Bool
is_rested_on number witness about = is_about number about && rests_on witness about

-- the elements on which the failure of the register of this number rests, by its witness
abbrev pub rested_on : ℕ → Option Witness → List Log → List (ℕ × ℕ)
rested_on number witness logs = left_from (is_rested_on number witness) 0 logs

-- ---- what is in doubt of registers

-- the elements that were left out of the register of this number, by a list for each register; none where there is none
abbrev pub left_out_at : List Doubt → ℕ → List (ℕ × ℕ)
left_out_at doubts number = option_map_or (λ doubt. doubt.left_out.items) (slice_get doubts number) []

-- the elements on which the failure of the register of this number rests, by a list for each register
abbrev pub rests_at : List Doubt → ℕ → List (ℕ × ℕ)
rests_at doubts number = option_map_or (λ doubt. doubt.rests_on.items) (slice_get doubts number) []

-- the witness of the register of this number, or none
abbrev pub witness_at : List Finding → ℕ → Option Witness
witness_at findings number = option_map_or (λ finding. finding.witness) (slice_get findings number) None

-- what is in doubt of each register, by number and by what is found of it: the elements of it that were left out, and
-- those of them on which its failure rests
abbrev pub AreDoubts : List Finding → List Log → List Doubt → Type 0
AreDoubts findings logs doubts =
    (length doubts ≡ length findings)
    × ((number : ℕ) → number < length findings → left_out_at doubts number ≡ left_out_of number logs)
    × ((number : ℕ) → number < length findings → rests_at doubts number ≡ rested_on number (witness_at findings number) logs)
