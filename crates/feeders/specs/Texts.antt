-- Where the texts of operations come from: which edits bring them, and which elements of a trace they are.
use Rattle.std.specs.Prelude.{◌≡◌, ◌<◌, ℕ, List, ◌∷◌, ◌++◌, take, drop, length, Option, Some, None, option_map, Result, Ok, All, IfSome, IsTrue}
use Rattle.std.specs.Borrow.{Bor}
use Rattle.std.specs.List.{slice_get}
use Rattle.edn_reader.specs.Grammar.{ElementModel}
use Rattle.intervals.specs.declared.operation.Op.{Op}
use Rattle.intervals.specs.declared.operation.OpId.{OpId}
use Rattle.intervals.specs.declared.operation.OpParts.{OpParts}
use Rattle.intervals.specs.declared.edit.Edit.{Edit}
use Rattle.intervals.specs.declared.edit.Edit.TheVariants as edits
use Rattle.intervals.specs.declared.edit.Lent.{Lent}
use Rattle.intervals.specs.declared.edit.Lent.TheVariants as lents
use Rattle.intervals.specs.Edit.{edit_id}
use Rattle.tower_file.specs.Contents.{TowerModel}
use Rattle.jepsen_form.specs.declared.gist.RefusedForm.{RefusedForm}
use Rattle.jepsen_form.specs.declared.item.Item.{Item}
use Rattle.jepsen_form.specs.declared.item.Item.TheVariants as items
use Rattle.jepsen_form.specs.declared.item.Stage.{Stage}
use Rattle.jepsen_form.specs.declared.item.Stage.TheVariants as stages
use Rattle.jepsen_form.specs.declared.item.MomentField.{MomentField}
use Rattle.pairing.specs.declared.step.Step.TheVariants as steps
use Rattle.shards.specs.declared.entry.Entry.{Entry}
use Rattle.shards.specs.Journal.{is_accepted_of}
use Rattle.shards.specs.Plain.{plain_edit}
use Rattle.logs.specs.declared.log.Log.{Log}
use Rattle.logs.specs.Steps.{AreItemsOfTrace, steps_of}

-- a kind of text that an operation has: of its invocation, of its answer, or of its amendment
pub data TextKind : Type 0 where
  invocation : TextKind
  answer : TextKind
  amendment : TextKind

-- the text of this kind that an operation has; an answer and an amendment are optional
abbrev pub text_of : TextKind → OpParts → Option (Bor (List ℕ))
text_of invocation parts = Some parts.invocation
text_of answer parts = parts.answer
text_of amendment parts = parts.amendment

-- the text of this kind that a change lends, or none
abbrev pub text_in : TextKind → Lent → Option (Bor (List ℕ))
text_in invocation (lents.Answer text) = None
text_in invocation (lents.Amendment text) = None
text_in answer (lents.Answer text) = Some text
text_in answer (lents.Amendment text) = None
text_in amendment (lents.Answer text) = None
text_in amendment (lents.Amendment text) = Some text

-- what an edit makes of this text of its operation: an append gives it or leaves it out, a withdrawal leaves it out, an
-- amendment gives the one that it lends; none where the edit leaves it as it was
abbrev pub settled : TextKind → Edit → Option (Option (Bor (List ℕ)))
settled part (edits.Append op) = Some (text_of part op.parts)
settled part (edits.Amend id change) = option_map Some (text_in part change.lent)
settled part (edits.Withdraw id) = Some None
settled part (edits.Claim kind) = None

-- the entry is an accepted edit of this operation of a register
pub record IsEditOf (register : ℕ) (id : OpId) (entry : Entry) : Type 0 where
  pub accepted : IsTrue (is_accepted_of register entry)
  pub of_id : edit_id entry.edit ≡ Some id

-- of the accepted edits of an operation in a journal, the last one that makes something of this text makes this of it
pub record IsLastSettled (register : ℕ) (journal : List Entry) (id : OpId) (part : TextKind) (text : Option (Bor (List ℕ))) : Type 0 where
  pub before : List Entry
  pub entry : Entry
  pub after : List Entry
  pub journal_is : journal ≡ before ++ entry ∷ after
  pub of_it : IsEditOf register id entry
  pub settles : settled part entry.edit ≡ Some text
  pub last : All (λ later. IsEditOf register id later → settled part later.edit ≡ None) after

-- the kind of text that an event brings: an invocation, or an answer that is `:ok`; none at `:fail` and `:info`
abbrev pub brought_at : Stage → Option TextKind
brought_at stages.Invoke = Some invocation
brought_at stages.Ok = Some answer
brought_at stages.Fail = None
brought_at stages.Info = None

-- the kind of text that an item brings of its operation (invocation, answer or amendment), or none
abbrev pub brought : Item → Option TextKind
brought (items.Event event) = brought_at event.answer
brought (items.Amend of change) = Some amendment
brought (items.Withdraw of) = None
brought (items.Claim register kind) = None
brought (items.Ask register) = None
brought items.Skipped = None

-- a feeder's trace and log, and the items of the trace's elements
pub record TraceReading (tower : TowerModel) (chosen : MomentField) (traces : List (List ℕ)) (logs : List Log) (feeder : ℕ) : Type 0 where
  pub trace : List ℕ
  pub log : Log
  pub items : List (Result Item RefusedForm)
  pub trace_is : slice_get traces feeder ≡ Some trace
  pub log_is : slice_get logs feeder ≡ Some log
  pub are : AreItemsOfTrace tower chosen trace log.broken items

-- the element's bytes are those of the trace from its first place on
abbrev pub IsSlice : List ℕ → ElementModel → Type 0
IsSlice trace piece = take (length piece.text) (drop piece.start trace) ≡ piece.text

-- the edit may be that of the element at this place: an append is at the event of its id, another edit of an operation
-- after that, and a claim anywhere
abbrev pub IsPlaced : ℕ → Edit → Type 0
IsPlaced place (edits.Append op) = op.id.event ≡ place
IsPlaced place (edits.Amend id change) = id.event < place
IsPlaced place (edits.Withdraw id) = id.event < place
IsPlaced place (edits.Claim kind) = Unit {0}

-- the entry reads as the edit of the step at this place of the feeder's trace; an operation that it names is the
-- feeder's, and a text that it lends is the element there
pub record IsOfStep (feeder : ℕ) (trace : List ℕ) (pieces : List ElementModel) (items : List (Result Item RefusedForm)) (entry : Entry) (place : ℕ) : Type 0 where
  pub edit : Edit
  pub step : slice_get (steps_of feeder items) place ≡ Some (Ok (Some (steps.Edit entry.register edit)))
  pub reads : plain_edit entry.edit ≡ plain_edit edit
  pub own : IfSome (edit_id entry.edit) (λ id. id.feeder ≡ feeder)
  pub placed : IsPlaced place entry.edit
  pub item : Item
  pub item_is : slice_get items place ≡ Some (Ok item)
  pub piece : ElementModel
  pub element : slice_get pieces place ≡ Some piece
  pub slice : IsSlice trace piece
  pub texts : (part : TextKind) (text : Bor (List ℕ)) → settled part entry.edit ≡ Some (Some text) → (brought item ≡ Some part) × (text.now ≡ piece.text)

-- the text is the element at this place of the trace: the item there brings a text of this kind, and its edit is the
-- last accepted one of the operation that makes something of it
pub record IsLentAt (trace : List ℕ) (pieces : List ElementModel) (items : List (Result Item RefusedForm)) (register : ℕ) (journal : List Entry) (id : OpId) (part : TextKind) (place : ℕ) (text : Bor (List ℕ)) : Type 0 where
  pub last : IsLastSettled register journal id part (Some text)
  pub of_step : IsOfStep id.feeder trace pieces items last.entry place
  pub brings : brought of_step.item ≡ Some part
  pub text_is : text.now ≡ of_step.piece.text

-- the text is an element of the trace at a place after the operation's: the item there brings a text of this kind, and
-- its edit is the last accepted one of the operation that makes something of it
abbrev pub IsLentBehind : List ℕ → List ElementModel → List (Result Item RefusedForm) → ℕ → List Entry → OpId → TextKind → Bor (List ℕ) → Type 0
IsLentBehind trace pieces items register journal id part text =
    (place : ℕ) × (id.event < place) × IsLentAt trace pieces items register journal id part place text

-- each text of an operation is an element of its feeder's trace: the invocation the one at the event of its id, an
-- answer and an amendment later ones
pub record IsLentByTrace (tower : TowerModel) (chosen : MomentField) (traces : List (List ℕ)) (logs : List Log) (register : ℕ) (journal : List Entry) (op : Op) : Type 0 where
  pub reading : TraceReading tower chosen traces logs op.id.feeder
  pub invoked : IsLentAt reading.trace reading.are.pieces reading.items register journal op.id invocation op.id.event op.parts.invocation
  pub answered : IfSome op.parts.answer (IsLentBehind reading.trace reading.are.pieces reading.items register journal op.id answer)
  pub amended : IfSome op.parts.amendment (IsLentBehind reading.trace reading.are.pieces reading.items register journal op.id amendment)
