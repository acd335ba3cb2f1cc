-- What an element says of a register, without a tower.
use Rattle.std.specs.Prelude.{ℕ, ℤ, Bool, true, false, List, Option, Some, None, Result, Ok, Err, codes, if◌then◌else◌}
use Rattle.std.specs.Option.{option_map}
use Rattle.edn_reader.specs.Grammar.{ElementModel, untagged}
use Rattle.edn_reader.specs.Given.{given}
use Rattle.edn_reader.specs.Pairs.{HasPairs, values_of}
use Rattle.jepsen_form.specs.declared.item.Action.{Action}
use Rattle.jepsen_form.specs.declared.item.Action.TheVariants.{Read, Write}
use Rattle.jepsen_form.specs.declared.item.MomentField.TheVariants.{Index}
use Rattle.jepsen_form.specs.declared.item.Stage.{Stage}
use Rattle.jepsen_form.specs.declared.item.Stage.TheVariants as stages
use Rattle.jepsen_form.specs.declared.fault.FormFault.{FormFault}
use Rattle.jepsen_form.specs.declared.mention.Mention.{Mention}
use Rattle.jepsen_form.specs.Fields.{Fields, fields_of, UnderValue, NoValue, AValue, NamedValue, ManyValues, IsUnderValue}
use Rattle.jepsen_form.specs.Item.{is_there, process_said, the_action, the_stage}

-- what an element says of a register: its name, or none where the value is of a tower's only register, and the process
-- where it writes
pub record MentionModel : Type 0 where
  pub name : Option (List ℕ)
  pub writer : Option ℤ

-- what the program's value of a mention is seen as
abbrev pub mention_seen : Mention → MentionModel
mention_seen mention = record { name = option_map (λ name. name.now) mention.name; writer = mention.writer }

-- whether the register of an event of this stage is read: of an invocation, and of an answer that is `:ok`
abbrev pub is_told : Result Stage FormFault → Bool
is_told (Ok stages.Invoke) = true
is_told (Ok stages.Ok) = true
is_told (Ok stages.Fail) = false
is_told (Ok stages.Info) = false
is_told (Err fault) = false

-- the process, where it writes
abbrev pub writer_by : Action → ℤ → Option ℤ
writer_by Read process = None
writer_by Write process = Some process

-- the optional name of the register that is said under `:value`: of a pair [k v] the bytes of k without its tags; nothing
-- where more than one thing is under it
abbrev pub name_said : UnderValue → Option (Option (List ℕ))
name_said NoValue = Some None
name_said (AValue value) = Some None
name_said (NamedValue name value) = Some (Some (untagged name).text)
name_said ManyValues = None

-- the mention of a register under this optional name by an event of this process and this action, if there is a name and
-- the action can be read
abbrev pub mention_acted : ℤ → Result Action FormFault → Option (Option (List ℕ)) → Option MentionModel
mention_acted process (Err fault) name = None
mention_acted process (Ok action) name = option_map (λ name. record { name = name; writer = writer_by action process }) name

-- the mention of a register by an event of this optional process; none where its register is not read
abbrev pub mention_told : Option ℤ → Bool → Result Action FormFault → Option (Option (List ℕ)) → Option MentionModel
mention_told None told action name = None
mention_told (Some process) false action name = None
mention_told (Some process) true action name = mention_acted process action name

-- the mention of a register by a map of these fields, with this under `:value`; none where it is an edit, a question, or
-- an event that is neither a read nor a write, or whose register is not read
abbrev pub mention_by : Fields → UnderValue → Option MentionModel
mention_by found said =
    if is_there found.edit then None
    else if is_there found.ask then None
    else mention_told (process_said found.process) (is_told (the_stage found.stage)) (the_action found.action) (name_said said)

-- what the element says of a register, or nothing: by its process, stage, action and value alone
pub data IsMention : ElementModel → Option MentionModel → Type 0 where
  no_map : {piece : ElementModel} → ((pairs : List (ElementModel × ElementModel)) → HasPairs piece pairs → ⊥) → IsMention piece None
  of_map : {piece : ElementModel} (pairs : List (ElementModel × ElementModel)) (said : UnderValue) → HasPairs piece pairs
      → IsUnderValue (given (values_of (codes ":value") pairs)) said
      → IsMention piece (mention_by (fields_of Index pairs) said)
