-- The reply to an edit: the first refusal whose condition holds of the operations that stand.
use Rattle.std.specs.Prelude.{ℕ, ℤ, Bool, true, false, not, ◌&&◌, ◌||◌, ◌==◌, nat_lt, nat_le, List, [], ◌∷◌, ◌++◌, length, find, Option, Some, None, option_map, is_some, Result, Ok, Err, if◌then◌else◌}
use Rattle.std.specs.List.{list_any}
use Rattle.std.specs.Ordering.{int_eq}
use Rattle.intervals.specs.declared.operation.Op.{Op}
use Rattle.intervals.specs.declared.operation.OpId.{OpId}
use Rattle.intervals.specs.declared.operation.Moment.{Moment}
use Rattle.intervals.specs.declared.operation.Value.{Value}
use Rattle.intervals.specs.declared.edit.Edit.{Edit}
use Rattle.intervals.specs.declared.edit.Edit.TheVariants.{Append, Amend, Withdraw, Claim}
use Rattle.intervals.specs.Terms.{ClaimModel, RegisterState}
use Rattle.intervals.specs.declared.claim.Kind.{Kind}
use Rattle.intervals.specs.declared.claim.Kind.TheVariants.{Safe, Regular, Atomic}
use Rattle.intervals.specs.declared.claim.Holder.{Holder}
use Rattle.intervals.specs.declared.claim.Holder.TheVariants as holders
use Rattle.intervals.specs.declared.refusal.Refusal.{Refusal}
use Rattle.intervals.specs.declared.refusal.Refusal.TheVariants.{UnknownOp, OpTaken, EndNotAfterBegin, MomentTaken, MomentTooLarge, NotAWriter, WritesOverlap, ValueTaken, OutOfDomain, ClaimFixed, ClaimWriters, ClaimInitial, ClaimOverlap, ClaimRepeats}
use Rattle.intervals.specs.Operation.{same_id, same_value, is_write, value_of, overlaps}
use Rattle.intervals.specs.Least.{least_by}
use Rattle.intervals.specs.Edit.{op_of, new_op, edited, claim_after}

-- the first refusal of the list of optional ones, or none where each is none
abbrev pub first_present : List (Option Refusal) → Option Refusal
first_present [] = None
first_present (None ∷ rest) = first_present rest
first_present (Some refusal ∷ rest) = Some refusal

-- the optional refusal as a result: the error that it is, or success where there is none
abbrev pub ok_unless : Option Refusal → Result (Unit {0}) Refusal
ok_unless None = Ok tt
ok_unless (Some refusal) = Err refusal

-- the refusal where the test is true, else none
abbrev pub refused_if : Bool → Refusal → Option Refusal
refused_if test refusal = if test then Some refusal else None

-- whether the optional end is at the moment or before it; false where there is none
abbrev pub ends_by : Option Moment → Moment → Bool
ends_by None begin = false
ends_by (Some end) begin = nat_le end.0 begin.0

-- whether the operation has an end that is not after its beginning (X3)
abbrev pub has_early_end : Op → Bool
has_early_end op = ends_by op.end op.begin

-- whether the optional end is at the moment; false where there is none
abbrev pub is_at : Option Moment → Moment → Bool
is_at None moment = false
is_at (Some end) moment = end.0 == moment.0

-- whether the operation begins or ends at the moment
abbrev pub is_moment_of : Op → Moment → Bool
is_moment_of op moment = (op.begin.0 == moment.0) || is_at op.end moment

-- the first operation of another id than this that begins or ends at the moment, or none
abbrev pub find_other_with : List Op → OpId → Moment → Option Op
find_other_with ops id moment = find (λ op. not (same_id op.id id) && is_moment_of op moment) ops

-- X4 of an optional moment of the operation of this id, with the moment and the id of another that has it; or none
abbrev pub moment_taken : List Op → OpId → Option Moment → Option Refusal
moment_taken ops id None = None
moment_taken ops id (Some moment) = option_map (λ other. MomentTaken moment other.id) (find_other_with ops id moment)

-- whether the moment is past the greatest, 4611686018427387903 = 2^62 - 1
abbrev pub is_past : Moment → Bool
is_past moment = nat_lt 4611686018427387903 moment.0

-- whether the optional end is past the greatest moment; false where there is none
abbrev pub is_past_end : Option Moment → Bool
is_past_end None = false
is_past_end (Some end) = is_past end

-- whether the operation begins or ends past the greatest moment (X5)
abbrev pub has_large_moment : Op → Bool
has_large_moment op = is_past op.begin || is_past_end op.end

-- the first of X3, X4 for the beginning, X4 for the end and X5 that the operation meets, or none
abbrev pub moments_refusal : List Op → Op → Option Refusal
moments_refusal ops op = first_present (
    refused_if (has_early_end op) EndNotAfterBegin
    ∷ moment_taken ops op.id (Some op.begin)
    ∷ moment_taken ops op.id op.end
    ∷ refused_if (has_large_moment op) MomentTooLarge
    ∷ [])

-- X1 where an amendment changes no operation, else the first of X3 to X5 that the changed one meets, or none
abbrev pub amendment_refusal : List Op → Option Op → Option Refusal
amendment_refusal ops None = Some UnknownOp
amendment_refusal ops (Some op) = moments_refusal ops op

-- the first of X1 to X5 that the edit meets, or none
abbrev pub first_refusal : List Op → Edit → Option Refusal
first_refusal ops (Append op) = if is_some (op_of ops op.id) then Some OpTaken else moments_refusal ops op
first_refusal ops (Amend id change) = amendment_refusal ops (new_op ops (Amend id change))
first_refusal ops (Withdraw id) = if is_some (op_of ops id) then None else Some UnknownOp
first_refusal ops (Claim kind) = None

-- whether the process is one of the listed writers, or no list is given
abbrev pub may_write : Option (List ℤ) → ℤ → Bool
may_write None process = true
may_write (Some processes) process = list_any (λ p. int_eq p process) processes

-- whether the value is in the domain, or no domain is given
abbrev pub is_in_domain : Option (List Value) → Value → Bool
is_in_domain None value = true
is_in_domain (Some values) value = list_any (λ v. same_value v value) values

-- whether the second operation is a write of another id than the first, and overlaps it
abbrev pub is_overlapped : Op → Op → Bool
is_overlapped op other = not (same_id other.id op.id) && is_write other && overlaps other op

-- X7 with the id of the other write that overlaps the operation and begins first, or none where no write does
abbrev pub overlap_refusal : List Op → Op → Option Refusal
overlap_refusal ops op = option_map (λ other. WritesOverlap other.id) (least_by (λ other. other.begin.0) (is_overlapped op) ops)

-- whether the second operation is a write of another id than the first, and has the value of the first
abbrev pub is_holder : Op → Op → Bool
is_holder op other = not (same_id other.id op.id) && is_write other && same_value (value_of other.act) (value_of op.act)

-- the operation as the `Holder` of its value
abbrev pub as_holder : Op → Holder
as_holder op = holders.Op op.id

-- whether the value is the claim's initial one, and that is known
abbrev pub is_initial : ClaimModel → Value → Bool
is_initial claim value = claim.known && same_value claim.initial value

-- who has the operation's value already: the register at first, where that value is known to be its initial one, else
-- the first other write in the list that has it; or none
abbrev pub holder_of : ClaimModel → List Op → Op → Option Holder
holder_of claim ops op =
    if is_initial claim (value_of op.act)
    then Some holders.Initial
    else option_map as_holder (find (is_holder op) ops)

-- X8 with the holder of the operation's value, or none where nothing else has it
abbrev pub value_refusal : ClaimModel → List Op → Op → Option Refusal
value_refusal claim ops op = option_map ValueTaken (holder_of claim ops op)

-- X7 or none on a safe or regular register, X8 or none on an atomic one
abbrev pub kind_refusal : Kind → ClaimModel → List Op → Op → Option Refusal
kind_refusal Safe claim ops op = overlap_refusal ops op
kind_refusal Regular claim ops op = overlap_refusal ops op
kind_refusal Atomic claim ops op = value_refusal claim ops op

-- the first of X6 to X9 that the operation meets, or none; a read meets none of them
abbrev pub write_refusal : ClaimModel → List Op → Op → Option Refusal
write_refusal claim ops op =
    if is_write op
    then first_present (
    refused_if (not (may_write claim.writers op.process)) NotAWriter
    ∷ kind_refusal claim.kind claim ops op
    ∷ refused_if (not (is_in_domain claim.domain (value_of op.act))) OutOfDomain
    ∷ [])
    else None

-- the first of X6 to X9 that the optional new operation of an edit meets, or none
abbrev pub new_write_refusal : ClaimModel → List Op → Option Op → Option Refusal
new_write_refusal claim ops None = None
new_write_refusal claim ops (Some op) = write_refusal claim ops op

-- whether the writers are a list of exactly one process (else X11)
abbrev pub is_one_writer : Option (List ℤ) → Bool
is_one_writer None = false
is_one_writer (Some processes) = length processes == 1

-- the number of the moment at which the operation begins
abbrev pub begin_number : Op → ℕ
begin_number op = op.begin.0

-- whether the operation is a write that overlaps another write of the list
abbrev pub overlaps_another : List Op → Op → Bool
overlaps_another ops w = is_write w && list_any (is_overlapped w) ops

-- the ids of two operations as a pair
abbrev pub ids_with : Op → Op → OpId × OpId
ids_with a b = (a.id, b.id)

-- of an optional write: its id, and that of the write which begins first among those that overlap it; or none
abbrev pub overlap_of : List Op → Option Op → Option (OpId × OpId)
overlap_of ops None = None
overlap_of ops (Some w) = option_map (ids_with w) (least_by begin_number (is_overlapped w) ops)

-- the ids of the write that begins first among those that overlap another write, and of the write that begins first
-- among those that overlap it; or none
abbrev pub first_overlap : List Op → Option (OpId × OpId)
first_overlap ops = overlap_of ops (least_by begin_number (overlaps_another ops) ops)

-- X12 with the ids of two overlapping writes
abbrev pub overlap_claimed : OpId × OpId → Refusal
overlap_claimed ids = ClaimOverlap ids.0 ids.1

-- the id of the operation and the holder as a pair
abbrev pub id_with : Op → Holder → OpId × Holder
id_with op holder = (op.id, holder)

-- where the operation is a write whose value the register at first or a write of the list has (`holder_of`): its id,
-- and the holder; or none
abbrev pub repeat_of : ClaimModel → List Op → Op → Option (OpId × Holder)
repeat_of claim before op = if is_write op then option_map (id_with op) (holder_of claim before op) else None

-- the first of two optional repeats, or the second where there is no first
abbrev pub first_there : Option (OpId × Holder) → Option (OpId × Holder) → Option (OpId × Holder)
first_there None later = later
first_there (Some found) later = Some found

-- the first write of the second list whose value is known to be the initial one, or is that of a write before it there
-- or of one in the first list: its id and the value's holder; or none
abbrev pub first_repeat : ClaimModel → List Op → List Op → Option (OpId × Holder)
first_repeat claim before [] = None
first_repeat claim before (op ∷ ops) = first_there (repeat_of claim before op) (first_repeat claim (before ++ op ∷ []) ops)

-- X13 with the id of a write and the holder of its value
abbrev pub repeat_claimed : OpId × Holder → Refusal
repeat_claimed repeat = ClaimRepeats repeat.0 repeat.1

-- the first of X11, X14 and X12, in this order, that a claim to be safe or regular meets, or none
abbrev pub one_writer_refusal : ClaimModel → List Op → Option Refusal
one_writer_refusal claim ops = first_present (
    refused_if (not (is_one_writer claim.writers)) ClaimWriters
    ∷ refused_if (not claim.known) ClaimInitial
    ∷ option_map overlap_claimed (first_overlap ops)
    ∷ [])

-- the first of X11, X14 and X12 that a claim to be safe or regular meets, or X13 of a claim to be atomic; or none
abbrev pub to_kind_refusal : Kind → ClaimModel → List Op → Option Refusal
to_kind_refusal Safe claim ops = one_writer_refusal claim ops
to_kind_refusal Regular claim ops = one_writer_refusal claim ops
to_kind_refusal Atomic claim ops = option_map repeat_claimed (first_repeat claim [] ops)

-- the first of X10, X11, X14, X12 and X13, in this order, that the edit meets, or none; a claim alone meets them
abbrev pub claim_refusal : ClaimModel → List Op → Edit → Option Refusal
claim_refusal claim ops (Append op) = None
claim_refusal claim ops (Amend id change) = None
claim_refusal claim ops (Withdraw id) = None
claim_refusal claim ops (Claim kind) = first_present (refused_if claim.fixed ClaimFixed ∷ to_kind_refusal kind claim ops ∷ [])

-- the reply to an edit: the first of X1 to X5, X6 to X9 and those of `claim_refusal` that it meets; none where accepted
abbrev pub reply_to : RegisterState → Edit → Option Refusal
reply_to held edit =
    first_present (first_refusal held.ops edit ∷ new_write_refusal held.claim held.ops (new_op held.ops edit) ∷ claim_refusal held.claim held.ops edit ∷ [])

-- the state of a register after the edit, which is carried out whether or not it would be accepted
abbrev pub carried_out : RegisterState → Edit → RegisterState
carried_out held edit = record { claim = claim_after held.claim edit; ops = edited held.ops edit }

-- the state of a register after the edit: carried out where it is accepted, else as before
abbrev pub after_edit : RegisterState → Edit → RegisterState
after_edit held edit = if is_some (reply_to held edit) then held else carried_out held edit

-- the state of a register after the edits, one by one, of which those that are refused change nothing
abbrev pub standing : RegisterState → List Edit → RegisterState
standing held [] = held
standing held (edit ∷ edits) = standing (after_edit held edit) edits
