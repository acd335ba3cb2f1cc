-- The item of an element, by this project's profile of Jepsen's histories: the first fault in reading order counts.
use Rattle.std.specs.Prelude.{◌≡◌, ◌==◌, ℕ, ℤ, pos, negsuc, Bool, true, false, List, length, Option, Some, None, Result, Ok, Err, codes, if◌then◌else◌}
use Rattle.std.specs.Borrow.{Bor}
use Rattle.edn_reader.specs.Grammar.{ElementModel, untagged}
use Rattle.edn_reader.specs.Pairs.{is_word, is_nil, values_of, HasPairs}
use Rattle.edn_reader.specs.Integer.{int_of}
use Rattle.edn_reader.specs.Given.{Given, Missing, One, Many, given}
use Rattle.intervals.specs.declared.edit.Change.{Change}
use Rattle.intervals.specs.declared.edit.Lent.{Lent}
use Rattle.intervals.specs.declared.edit.Lent.TheVariants.{Answer, Amendment}
use Rattle.intervals.specs.declared.operation.Moment.{Moment}
use Rattle.intervals.specs.declared.operation.RegId.{RegId}
use Rattle.intervals.specs.declared.operation.Value.{Value}
use Rattle.intervals.specs.declared.operation.Value.TheVariants.{Nil}
use Rattle.std.specs.Option.{ok_or}
use Rattle.std.specs.Result.{result_ok}
use Rattle.tower_file.specs.Contents.{TowerModel, number_of}
use Rattle.intervals.specs.declared.claim.Kind.{Kind}
use Rattle.tower_file.specs.Stating.{stated_value, stated_kind}
use Rattle.tower_file.specs.Steps.{◌>>=◌, once, at_most_once}
use Rattle.jepsen_form.specs.declared.item.Action.{Action}
use Rattle.jepsen_form.specs.declared.item.Action.TheVariants.{Read, Write}
use Rattle.jepsen_form.specs.declared.item.Stage.{Stage}
use Rattle.jepsen_form.specs.declared.item.Stage.TheVariants as stages
use Rattle.jepsen_form.specs.declared.item.Item.{Item}
use Rattle.jepsen_form.specs.declared.item.Item.TheVariants as items
use Rattle.jepsen_form.specs.declared.item.MomentField.{MomentField}
use Rattle.jepsen_form.specs.declared.fault.FormField.{FormField}
use Rattle.jepsen_form.specs.declared.fault.FormField.TheVariants as fields
use Rattle.jepsen_form.specs.declared.fault.FormFault.{FormFault}
use Rattle.jepsen_form.specs.declared.fault.FormFault.TheVariants.{NotAMap, MissingField, DuplicateField, BadType, UnsupportedF, BadValue, BadMoment, NoRegister}
use Rattle.jepsen_form.specs.declared.gist.Gist.{Gist}
use Rattle.jepsen_form.specs.declared.gist.RefusedForm.{RefusedForm}
use Rattle.jepsen_form.specs.declared.gist.Written.{Written}
use Rattle.jepsen_form.specs.declared.gist.Written.TheVariants.{Nothing, Known, Unread}
use Rattle.jepsen_form.specs.Fields.{Fields, fields_of, UnderValue, NoValue, AValue, NamedValue, ManyValues, IsUnderValue}

-- the value of a field that must be there once: F2 where it is missing, F3 where it is there more than once
abbrev pub the_one : FormField → Given ElementModel → Result ElementModel FormFault
the_one field given = once (MissingField field) (DuplicateField field) given

-- the optional value of a field, read further, or its fault: F3 where the field is there more than once
abbrev pub at_most_one : {A : Type 0} → FormField → (ElementModel → Result A FormFault) → Given ElementModel → Result (Option A) FormFault
at_most_one field read given = at_most_once (DuplicateField field) read given

-- the test that a field is there, once or more often
abbrev pub is_there : Given ElementModel → Bool
is_there Missing = false
is_there (One value) = true
is_there Many = true

-- ---- single elements

-- the stage that an element under `:type` names; F4 where it names none
abbrev pub stage_of : ElementModel → Result Stage FormFault
stage_of piece =
    if is_word (codes ":invoke") piece then Ok stages.Invoke
    else if is_word (codes ":ok") piece then Ok stages.Ok
    else if is_word (codes ":fail") piece then Ok stages.Fail
    else if is_word (codes ":info") piece then Ok stages.Info
    else Err BadType

-- the action that an element under `:f` names; F5 where it names none
abbrev pub action_of : ElementModel → Result Action FormFault
action_of piece =
    if is_word (codes ":read") piece then Ok Read
    else if is_word (codes ":write") piece then Ok Write
    else Err UnsupportedF

-- the value that an element states: nil, or an integer of 64 bits; F6 of any other element
abbrev pub value_stated : ElementModel → Result Value FormFault
value_stated piece = ok_or (stated_value piece) BadValue

-- the number of an optional integer that is from 0 on, else this fault
abbrev pub natural_or : FormFault → Option ℤ → Result ℕ FormFault
natural_or fault None = Err fault
natural_or fault (Some (pos n)) = Ok n
natural_or fault (Some (negsuc n)) = Err fault

-- the moment that an element states: an integer of 64 bits, from 0 on; F7 of any other element
abbrev pub moment_of : ElementModel → Result Moment FormFault
moment_of piece = natural_or BadMoment (int_of piece) >>= (λ n. Ok (record { 0 = n }))

-- the end that an element states: a moment, or nil for none, which reopens the operation; F7 of any other element
abbrev pub end_of : ElementModel → Result (Option Moment) FormFault
end_of piece = if is_nil piece then Ok None else moment_of piece >>= (λ moment. Ok (Some moment))

-- the place in a trace that an element states: an integer of 64 bits, from 0 on; F6 of any other element
abbrev pub place_of : ElementModel → Result ℕ FormFault
place_of piece = natural_or BadValue (int_of piece)

-- the kind that an element names by its keyword; F4 where it names none
abbrev pub kind_stated : ElementModel → Result Kind FormFault
kind_stated piece = ok_or (stated_kind piece) BadType

-- ---- registers

-- the register whose name is the text of an element without its tags; F8 where the tower has none
abbrev pub register_named : TowerModel → ElementModel → Result RegId FormFault
register_named tower piece = ok_or (number_of tower.registers (untagged piece).text) NoRegister

-- the register of a tower of one register; F8 of any other tower
abbrev pub only_register : TowerModel → Result RegId FormFault
only_register tower = if length tower.registers == 1 then Ok (record { 0 = 0 }) else Err NoRegister

-- ---- events

-- the stage of an event by its field `:type`, or its fault
abbrev pub the_stage : Given ElementModel → Result Stage FormFault
the_stage given = the_one fields.Stage given >>= stage_of

-- the action of an event by its field `:f`, or its fault
abbrev pub the_action : Given ElementModel → Result Action FormFault
the_action given = the_one fields.Action given >>= action_of

-- the register of an event by what is under `:value`, or its fault: the one that is named before the value, else the
-- tower's only one
abbrev pub the_register : TowerModel → UnderValue → Result RegId FormFault
the_register tower NoValue = only_register tower
the_register tower (AValue value) = only_register tower
the_register tower (NamedValue name value) = register_named tower name
the_register tower ManyValues = Err (DuplicateField fields.Value)

-- the value of an event by what is under `:value`, or its fault; nil where nothing is there
abbrev pub the_value : UnderValue → Result Value FormFault
the_value NoValue = Ok Nil
the_value (AValue value) = value_stated value
the_value (NamedValue name value) = value_stated value
the_value ManyValues = Err (DuplicateField fields.Value)

-- the moment of an event by the field that is chosen for moments, or its fault
abbrev pub the_moment : Given ElementModel → Result Moment FormFault
the_moment given = the_one fields.Moment given >>= moment_of

-- what is read of an invocation and of an answer that is `:ok`; none of `:fail` and `:info`, of which it is not read
abbrev pub if_told : {A : Type 0} → Stage → Result A FormFault → Result (Option A) FormFault
if_told stages.Invoke reading = reading >>= (λ told. Ok (Some told))
if_told stages.Ok reading = reading >>= (λ told. Ok (Some told))
if_told stages.Fail reading = Ok None
if_told stages.Info reading = Ok None

-- the value of an event, read of an invoked write and of an answer that is `:ok`; nil of other events, of which it is
-- not read
abbrev pub value_told : Stage → Action → UnderValue → Result Value FormFault
value_told stages.Invoke Read said = Ok Nil
value_told stages.Invoke Write said = the_value said
value_told stages.Ok action said = the_value said
value_told stages.Fail action said = Ok Nil
value_told stages.Info action said = Ok Nil

-- the event of a process, or its first fault: its stage, action, register, value and moment are read in this order
abbrev pub event_of : TowerModel → Fields → UnderValue → Bor (List ℕ) → ℤ → Result Item FormFault
event_of tower found said text process =
    the_stage found.stage >>= (λ stage.
    the_action found.action >>= (λ action.
    if_told stage (the_register tower said) >>= (λ register.
    value_told stage action said >>= (λ value.
    if_told stage (the_moment found.moment) >>= (λ moment.
    Ok (items.Event (record { process = process; answer = stage; action = action; register = register; value = value; moment = moment; text = text })))))))

-- the event of a process, or its first fault; skipped where the process is no integer of 64 bits, and nothing else of
-- it is read
abbrev pub by_process : TowerModel → Fields → UnderValue → Bor (List ℕ) → Option ℤ → Result Item FormFault
by_process tower found said text None = Ok items.Skipped
by_process tower found said text (Some process) = event_of tower found said text process

-- ---- edits and questions

-- what an amendment gives, or its first fault: an optional value, beginning and end, read in this order
abbrev pub change_of : Fields → Bor (List ℕ) → Result Change FormFault
change_of found text =
    at_most_one fields.Value value_stated found.value >>= (λ value.
    at_most_one fields.Begin moment_of found.begin >>= (λ begin.
    at_most_one fields.End end_of found.end >>= (λ end.
    Ok (record { value = value; begin = begin; end = end; lent = Amendment text }))))

-- the place of the invocation that an edit names under `:of`, or its fault
abbrev pub edited_place : Fields → Result ℕ FormFault
edited_place found = the_one fields.Of found.of >>= place_of

-- the register that a claim names, or its fault
abbrev pub claimed_register : TowerModel → Fields → Result RegId FormFault
claimed_register tower found = the_one fields.Register found.register >>= register_named tower

-- the claim of a kind for a register, or its first fault: the register and the kind are read in this order
abbrev pub claim_of : TowerModel → Fields → Result Item FormFault
claim_of tower found =
    claimed_register tower found >>= (λ register.
    the_one fields.Claimed found.claimed >>= kind_stated >>= (λ kind.
    Ok (items.Claim register kind)))

-- the edit that the keyword under `:edit` names, or its first fault: an amendment, a withdrawal or a claim; F4 where
-- it names none
abbrev pub edit_by : TowerModel → Fields → Bor (List ℕ) → ElementModel → Result Item FormFault
edit_by tower found text keyword =
    if is_word (codes ":amend") keyword then
    edited_place found >>= (λ of. change_of found text >>= (λ change. Ok (items.Amend of change)))
    else if is_word (codes ":withdraw") keyword then
    edited_place found >>= (λ of. Ok (items.Withdraw of))
    else if is_word (codes ":claim") keyword then claim_of tower found
    else Err BadType

-- the question about the register of this name; F8 where the tower has none
abbrev pub question_of : TowerModel → ElementModel → Result Item FormFault
question_of tower name = register_named tower name >>= (λ id. Ok (items.Ask id))

-- ---- items

-- the item of a map, or its first fault: an edit where `:edit` is there, else a question where `:ask` is, else an
-- event
abbrev pub item_of : TowerModel → Fields → UnderValue → Bor (List ℕ) → Result Item FormFault
item_of tower found said text =
    if is_there found.edit then the_one fields.Edit found.edit >>= edit_by tower found text
    else if is_there found.ask then the_one fields.Ask found.ask >>= question_of tower
    else the_one fields.Process found.process >>= (λ piece. by_process tower found said text (int_of piece))

-- ---- what can be read of an element that its form refuses

-- nothing can be read of it
abbrev pub no_gist : Gist
no_gist = record { answers = None; of = None; register = None; written = Nothing; claims = false }

-- the value that was read, or that none could be
abbrev pub known_or_unread : Result Value FormFault → Written
known_or_unread (Ok value) = Known value
known_or_unread (Err fault) = Unread

-- the process that a field under `:process` says, or none
abbrev pub process_said : Given ElementModel → Option ℤ
process_said Missing = None
process_said (One piece) = int_of piece
process_said Many = None

-- the process whose invocation an event of this stage answers, or none: an invocation answers none, nor does an event
-- whose stage cannot be read
abbrev pub process_answered : Result Stage FormFault → Option ℤ → Option ℤ
process_answered (Ok stages.Invoke) process = None
process_answered (Ok stages.Ok) process = process
process_answered (Ok stages.Fail) process = process
process_answered (Ok stages.Info) process = process
process_answered (Err fault) process = None

-- the field of which a value is that is said under `:value`, with a register's name or without
abbrev pub inner_field : UnderValue → Given ElementModel
inner_field NoValue = Missing
inner_field (AValue value) = One value
inner_field (NamedValue name value) = One value
inner_field ManyValues = Many

-- what an event that is neither a read nor a write would have written by what is said under `:value`: nothing where
-- nothing is said
abbrev pub written_said : UnderValue → Written
written_said NoValue = Nothing
written_said (AValue value) = known_or_unread (the_value (AValue value))
written_said (NamedValue name value) = known_or_unread (the_value (NamedValue name value))
written_said ManyValues = Unread

-- what an event would have written: nothing where it is a `:read`, a `:fail` or an `:info`, else the value, which of a
-- pair is the second of the two, the new value; a write without a value writes nil. The last argument is what the value is (`inner_field`).
abbrev pub written_of_event : Result Stage FormFault → Result Action FormFault → UnderValue → Written
written_of_event (Ok stages.Fail) action inner = Nothing
written_of_event (Ok stages.Info) action inner = Nothing
written_of_event (Ok stages.Invoke) (Ok Read) inner = Nothing
written_of_event (Ok stages.Ok) (Ok Read) inner = Nothing
written_of_event (Err fault) (Ok Read) inner = Nothing
written_of_event (Ok stages.Invoke) (Ok Write) inner = known_or_unread (the_value inner)
written_of_event (Ok stages.Ok) (Ok Write) inner = known_or_unread (the_value inner)
written_of_event (Err fault) (Ok Write) inner = known_or_unread (the_value inner)
written_of_event (Ok stages.Invoke) (Err other) inner = written_said inner
written_of_event (Ok stages.Ok) (Err other) inner = written_said inner
written_of_event (Err fault) (Err other) inner = written_said inner

-- a pair of two values, and no register's name, is under `:value` where the name is none and the value is no pair
abbrev pub register_of_pair : TowerModel → UnderValue → Option RegId
register_of_pair tower NoValue = None
register_of_pair tower (AValue value) = result_ok (only_register tower)
register_of_pair tower (NamedValue name value) = None
register_of_pair tower ManyValues = None

-- the register of an event, by that which is read: where the tower has none of this name and the `:f` is another word
-- than `:read` and `:write`, what is there may be a pair of two values of the tower's only register
abbrev pub register_or : TowerModel → Result Action FormFault → UnderValue → Result RegId FormFault → Option RegId
register_or tower action inner (Ok register) = Some register
register_or tower (Ok action) inner (Err fault) = None
register_or tower (Err UnsupportedF) inner (Err fault) = register_of_pair tower inner
register_or tower (Err other) inner (Err fault) = None

-- the register of an event by what is said under `:value`: where nothing is said, the tower's only one if it is a read or
-- a write, and none of an event whose `:f` is another word or cannot be read
abbrev pub register_given : TowerModel → Result Action FormFault → UnderValue → UnderValue → Option RegId
register_given tower (Ok action) said inner = register_or tower (Ok action) inner (the_register tower said)
register_given tower (Err fault) NoValue inner = None
register_given tower (Err fault) (AValue value) inner = register_or tower (Err fault) inner (the_register tower (AValue value))
register_given tower (Err fault) (NamedValue name value) inner = register_or tower (Err fault) inner (the_register tower (NamedValue name value))
register_given tower (Err fault) ManyValues inner = register_or tower (Err fault) inner (the_register tower ManyValues)

-- what can be read of an event; the last argument is what its value is (`inner_field`)
abbrev pub event_gist : TowerModel → Fields → UnderValue → UnderValue → Gist
event_gist tower found said inner = record {
  answers = process_answered (the_stage found.stage) (process_said found.process);
  of = None;
  register = register_given tower (the_action found.action) said inner;
  written = written_of_event (the_stage found.stage) (the_action found.action) inner;
  claims = false;
}

-- what an optional value that was read writes
abbrev pub written_if : Result (Option Value) FormFault → Written
written_if (Ok None) = Nothing
written_if (Ok (Some value)) = Known value
written_if (Err fault) = Unread

-- whether the keyword under `:edit` is that of a claim
abbrev pub says_claim : Given ElementModel → Bool
says_claim Missing = false
says_claim (One keyword) = is_word (codes ":claim") keyword
says_claim Many = false

-- what can be read of an edit
abbrev pub edit_gist : TowerModel → Fields → Gist
edit_gist tower found = record {
  answers = None;
  of = result_ok (edited_place found);
  register = result_ok (claimed_register tower found);
  written = written_if (at_most_one fields.Value value_stated found.value);
  claims = says_claim found.edit;
}

-- what can be read of a map: of an edit, of an event, and nothing of a question
abbrev pub gist_of : TowerModel → Fields → UnderValue → UnderValue → Gist
gist_of tower found said inner =
    if is_there found.edit then edit_gist tower found
    else if is_there found.ask then no_gist
    else event_gist tower found said inner

-- an item, or its fault together with what can be read of the element
abbrev pub with_gist : Gist → Result Item FormFault → Result Item RefusedForm
with_gist gist (Ok item) = Ok item
with_gist gist (Err fault) = Err (record { fault = fault; gist = gist })

-- the item of an element, or its first fault with what can be read all the same, for a tower and the moment's field: F1
-- where it is no map, else that of its pairs (`item_of`, `gist_of`)
pub data IsItem (tower : TowerModel) (chosen : MomentField) : ElementModel → Result Item RefusedForm → Type 0 where
  no_map : {piece : ElementModel} → ((pairs : List (ElementModel × ElementModel)) → HasPairs piece pairs → ⊥)
      → IsItem tower chosen piece (with_gist no_gist (Err NotAMap))
  of_map : {piece : ElementModel} (pairs : List (ElementModel × ElementModel)) (said inner : UnderValue) (text : Bor (List ℕ)) → HasPairs piece pairs
      → IsUnderValue (given (values_of (codes ":value") pairs)) said → IsUnderValue (inner_field said) inner → text.now ≡ piece.text
      → IsItem tower chosen piece (with_gist (gist_of tower (fields_of chosen pairs) said inner) (item_of tower (fields_of chosen pairs) said text))

-- ---- where a text lies

-- a text of these bytes at this place in memory
abbrev pub text_at : ℕ × ℕ → Bor (List ℕ) → Bor (List ℕ)
text_at place text = record { ref_ptr = place; now = text.now }

-- what a change lends, its text at this place in memory
abbrev pub lent_at : ℕ × ℕ → Lent → Lent
lent_at place (Answer text) = Answer (text_at place text)
lent_at place (Amendment text) = Amendment (text_at place text)

-- an item with its text at this place in memory; a fault as it is
abbrev pub lying_at : {E : Type 0} → ℕ × ℕ → Result Item E → Result Item E
lying_at place (Err fault) = Err fault
lying_at place (Ok (items.Event event)) = Ok (items.Event (record event { text = text_at place event.text }))
lying_at place (Ok (items.Amend of change)) = Ok (items.Amend of (record change { lent = lent_at place change.lent }))
lying_at place (Ok (items.Withdraw of)) = Ok (items.Withdraw of)
lying_at place (Ok (items.Claim id kind)) = Ok (items.Claim id kind)
lying_at place (Ok (items.Ask id)) = Ok (items.Ask id)
lying_at place (Ok items.Skipped) = Ok items.Skipped

-- ---- an item of another text

-- what a change lends, with this text in place of its own
abbrev pub lent_with : Bor (List ℕ) → Lent → Lent
lent_with text (Answer other) = Answer text
lent_with text (Amendment other) = Amendment text

-- an item with this text in place of its own
abbrev pub item_with : Bor (List ℕ) → Item → Item
item_with text (items.Event event) = items.Event (record event { text = text })
item_with text (items.Amend of change) = items.Amend of (record change { lent = lent_with text change.lent })
item_with text (items.Withdraw of) = items.Withdraw of
item_with text (items.Claim id kind) = items.Claim id kind
item_with text (items.Ask id) = items.Ask id
item_with text items.Skipped = items.Skipped

-- an item with this text in place of its own; a fault as it is
abbrev pub answer_with : {E : Type 0} → Bor (List ℕ) → Result Item E → Result Item E
answer_with text (Err fault) = Err fault
answer_with text (Ok item) = Ok (item_with text item)
