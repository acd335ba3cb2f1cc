-- The messages that say what is amiss.
use Rattle.std.specs.Prelude.{ℕ, List, [], ◌++◌, Option, Some, None, codes}
use Rattle.std.specs.Option.{option_map_or}
use Rattle.std.specs.Fmt.{decimal, signed_decimal}
use Rattle.edn_reader.specs.declared.fault.EdnFault.{EdnFault}
use Rattle.edn_reader.specs.declared.fault.EdnFault.TheVariants as edn
use Rattle.intervals.specs.declared.claim.Holder.{Holder}
use Rattle.intervals.specs.declared.claim.Holder.TheVariants as holders
use Rattle.intervals.specs.declared.operation.OpId.{OpId}
use Rattle.intervals.specs.declared.refusal.Refusal.{Refusal}
use Rattle.intervals.specs.declared.refusal.Refusal.TheVariants as refusals
use Rattle.tower_file.specs.declared.fault.TowerFault.{TowerFault}
use Rattle.tower_file.specs.declared.fault.TowerFault.TheVariants as towers
use Rattle.tower_file.specs.declared.fault.TowerField.{TowerField}
use Rattle.tower_file.specs.declared.fault.TowerField.TheVariants as parts
use Rattle.jepsen_form.specs.declared.item.MomentField.{MomentField}
use Rattle.jepsen_form.specs.declared.item.MomentField.TheVariants.{Index, Time}
use Rattle.jepsen_form.specs.declared.fault.FormFault.{FormFault}
use Rattle.jepsen_form.specs.declared.fault.FormFault.TheVariants as forms
use Rattle.jepsen_form.specs.declared.fault.FormField.{FormField}
use Rattle.jepsen_form.specs.declared.fault.FormField.TheVariants as fields
use Rattle.logs.specs.declared.log.Code.{Code}
use Rattle.logs.specs.declared.log.Code.TheVariants as codings
use Rattle.texts.specs.Codes.{message_of_code}
use Rattle.lint.specs.declared.finding.Amiss.{Amiss}
use Rattle.lint.specs.declared.finding.Amiss.TheVariants as amiss
use Rattle.lint.specs.declared.finding.Note.{Note}
use Rattle.lint.specs.declared.finding.Note.TheVariants as notes
use Rattle.lint.specs.Grade.{finding_code}
use Rattle.lint.specs.declared.sentences.TheConstants.{SKIPPED, NO_OPERATION, UNUSED, NO_VALUE, NEAR_FIELD, UNREAD, UNANSWERED, SILENT_WRITER, SAME_MOMENT, OUT_OF_PROPORTION, RESTS, RESTS_ON_ANSWER, RESTS_ON_EDIT, RESTS_ON_UNREAD, E1_TRUNCATED, E2_STRAY_CLOSE, E3_WRONG_CLOSE, E4_TOO_DEEP, E5_ODD_MAP, E6_TAG_WITHOUT_ELEMENT, E7_MEMORY, AT_FIRST}

-- an operation as it is printed: the number of its trace, a colon, and the place of its invocation
abbrev pub operation_text : OpId → List ℕ
operation_text id = decimal id.feeder ++ codes ":" ++ decimal id.event

-- a field of an element as it is written
abbrev pub field_word : FormField → List ℕ
field_word fields.Process = codes ":process"
field_word fields.Stage = codes ":type"
field_word fields.Action = codes ":f"
field_word fields.Value = codes ":value"
field_word fields.Moment = codes ":index or :time"
field_word fields.Edit = codes ":edit"
field_word fields.Of = codes ":of"
field_word fields.Begin = codes ":begin"
field_word fields.End = codes ":end"
field_word fields.Ask = codes ":ask"
field_word fields.Register = codes ":register"
field_word fields.Claimed = codes ":kind"

-- the words for a fault of a tower file's text
abbrev pub edn_words : EdnFault → List ℕ
edn_words (edn.Truncated at) = E1_TRUNCATED.now
edn_words (edn.StrayClose at) = E2_STRAY_CLOSE.now
edn_words (edn.WrongClose at) = E3_WRONG_CLOSE.now
edn_words (edn.TooDeep at) = E4_TOO_DEEP.now
edn_words (edn.OddMap at) = E5_ODD_MAP.now
edn_words (edn.TagWithoutElement at) = E6_TAG_WITHOUT_ELEMENT.now
edn_words (edn.Memory at) = E7_MEMORY.now

-- a part of a tower file as it is written
abbrev pub tower_word : TowerField → List ℕ
tower_word parts.File = codes "the file"
tower_word parts.Levels = codes ":levels"
tower_word parts.Name = codes ":name"
tower_word parts.Registers = codes ":registers"
tower_word parts.Kind = codes ":kind"
tower_word parts.Writers = codes ":writers"
tower_word parts.Initial = codes ":initial"
tower_word parts.Domain = codes ":domain"
tower_word parts.Parts = codes ":of"
tower_word parts.Fixed = codes ":fixed"

-- what the words for a fault of a tower file end with: the fault of its text, or the part that is wrong
abbrev pub tower_text : TowerFault → List ℕ
tower_text (towers.Edn fault) = edn_words fault
tower_text (towers.Shape field) = tower_word field
tower_text fault = []

-- the words for a field of a tower file that is not read, and that may be meant for an absent one
abbrev pub unread_words : Option TowerField → List ℕ
unread_words (Some field) = NEAR_FIELD.now
unread_words None = UNREAD.now

-- the words for a note
abbrev pub note_words : Note → List ℕ
note_words notes.Skipped = SKIPPED.now
note_words notes.NoOperation = NO_OPERATION.now
note_words notes.Unused = UNUSED.now
note_words notes.NoValue = NO_VALUE.now
note_words (notes.NearField field) = NEAR_FIELD.now
note_words (notes.Unread meant) = unread_words meant
note_words notes.Unanswered = UNANSWERED.now
note_words (notes.SilentWriter process) = SILENT_WRITER.now
note_words (notes.SameMoment event ties) = SAME_MOMENT.now
note_words (notes.OutOfProportion many) = OUT_OF_PROPORTION.now
note_words (notes.Rests operation) = RESTS.now
note_words (notes.RestsOnEdit operation) = RESTS_ON_EDIT.now
note_words (notes.RestsOnAnswer operation) = RESTS_ON_ANSWER.now
note_words (notes.RestsOnUnread operation) = RESTS_ON_UNREAD.now

-- the field of moments under which no event has the moment of an earlier one
abbrev pub better_text : MomentField → List ℕ
better_text Index = codes ". None has under :index: try --moment index"
better_text Time = codes ". None has under :time: try --moment time"

-- what the words for a note end with: a field, a process, a number or an operation
abbrev pub noted_text : Note → List ℕ
noted_text notes.Skipped = []
noted_text notes.NoOperation = []
noted_text notes.Unused = []
noted_text notes.NoValue = []
noted_text (notes.NearField field) = field_word field
noted_text (notes.Unread meant) = option_map_or tower_word meant []
noted_text notes.Unanswered = []
noted_text (notes.SilentWriter process) = signed_decimal process
noted_text (notes.SameMoment event ties) = decimal ties.many ++ option_map_or better_text ties.better []
noted_text (notes.OutOfProportion many) = decimal many
noted_text (notes.Rests operation) = operation_text operation
noted_text (notes.RestsOnEdit operation) = operation_text operation
noted_text (notes.RestsOnAnswer operation) = operation_text operation
noted_text (notes.RestsOnUnread operation) = operation_text operation

-- what has a value, as it is printed: an operation, or the register at first
abbrev pub value_holder_text : Holder → List ℕ
value_holder_text (holders.Op id) = operation_text id
value_holder_text holders.Initial = AT_FIRST.now

-- the field that is missing or given twice; empty for another fault of form
abbrev pub field_text : FormFault → List ℕ
field_text (forms.MissingField field) = field_word field
field_text (forms.DuplicateField field) = field_word field
field_text fault = []

-- what the words for a refusal end with: a moment, and operations that the edit meets
abbrev pub operations_text : Refusal → List ℕ
operations_text (refusals.MomentTaken moment id) = decimal moment.0 ++ codes " of " ++ operation_text id
operations_text (refusals.WritesOverlap id) = operation_text id
operations_text (refusals.ValueTaken holder) = value_holder_text holder
operations_text (refusals.ClaimOverlap one other) = operation_text one ++ codes " and " ++ operation_text other
operations_text (refusals.ClaimRepeats id holder) = operation_text id ++ codes " and " ++ value_holder_text holder
operations_text refusal = []

-- the words for what is amiss
abbrev pub words_of : Amiss → List ℕ
words_of (amiss.Noted event note) = note_words note
words_of what = message_of_code (finding_code what)

-- what the words for a refused element end with
abbrev pub details_of_code : Code → List ℕ
details_of_code (codings.Form fault) = field_text fault
details_of_code (codings.Pair fault) = []
details_of_code (codings.Register refusal) = operations_text refusal

-- what the words for what is amiss end with: a field, a moment, operations, or nothing
abbrev pub details_of : Amiss → List ℕ
details_of (amiss.Refused event code) = details_of_code code
details_of (amiss.Broken code) = []
details_of (amiss.Tower fault) = tower_text fault
details_of (amiss.Noted event note) = noted_text note

-- the message for what is amiss: its words, and what they end with
abbrev pub message_of : Amiss → List ℕ
message_of what = words_of what ++ details_of what
