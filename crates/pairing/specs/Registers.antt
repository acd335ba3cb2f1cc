-- How a pairing keeps what it knows, and the step of an item by that; for private clauses alone.
use Rattle.std.specs.Prelude.{◌<◌, ℕ, List, [], ◌∷◌, ◌++◌, length, slice_index_or, Option, Some, None, Result, Ok}
use Rattle.intervals.specs.declared.edit.Edit.TheVariants as edits
use Rattle.intervals.specs.declared.operation.RegId.{RegId}
use Rattle.jepsen_form.specs.declared.item.Item.{Item}
use Rattle.jepsen_form.specs.declared.item.Item.TheVariants as items
use Rattle.pairing.specs.declared.fault.PairFault.{PairFault}
use Rattle.pairing.specs.declared.invocation.Invocation.{Invocation}
use Rattle.pairing.specs.declared.step.Step.{Step}
use Rattle.pairing.specs.declared.step.Step.TheVariants as steps
use Rattle.pairing.specs.Accepted.{event_fault, edit_fault}
use Rattle.pairing.specs.Known.{PairingModel, register_at}
use Rattle.pairing.specs.Step.{id_of, event_step, edit_step, unless}
use Rattle.pairing.specs.Waiting.{waits_at}

-- the place in the row at this index
abbrev pub row_place : List (ℕ × RegId) → ℕ → ℕ
row_place registers i = let row = slice_index_or registers i (0, record { 0 = 0 }) in row.0

-- the places of the rows rise, so none is there twice
abbrev pub IsRising : List (ℕ × RegId) → Type 0
IsRising registers = (i j : ℕ) → i < j → j < length registers → row_place registers i < row_place registers j

-- the rows with that of an optional invocation added at the end
abbrev pub with_row : List (ℕ × RegId) → Option Invocation → List (ℕ × RegId)
with_row registers None = registers
with_row registers (Some invocation) = registers ++ (invocation.place, invocation.register) ∷ []

-- the optional step of an item by what a pairing knows, or why it is refused
abbrev pub answer_beside : PairingModel → ℕ → Item → Result (Option Step) PairFault
answer_beside known place (items.Event event) =
    let unanswered = waits_at known.unanswered event.process in
    unless (event_fault unanswered event event.answer) (event_step known.feeder unanswered place event event.answer)
answer_beside known place (items.Amend of change) =
    let register = register_at known.registers of in
    unless (edit_fault register) (edit_step register (edits.Amend (id_of known.feeder of) change))
answer_beside known place (items.Withdraw of) =
    let register = register_at known.registers of in
    unless (edit_fault register) (edit_step register (edits.Withdraw (id_of known.feeder of)))
answer_beside known place (items.Claim register kind) = Ok (Some (steps.Edit register (edits.Claim kind)))
answer_beside known place (items.Ask register) = Ok (Some (steps.Ask register))
answer_beside known place items.Skipped = Ok None
