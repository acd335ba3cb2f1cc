-- The registers that the elements of traces name.
use Rattle.std.specs.Prelude.{◌≡◌, ◌||◌, ℕ, ℤ, Bool, false, List, [], ◌∷◌, Option, Some, None, fold, codes, if◌then◌else◌}
use Rattle.std.specs.List.{AllZip}
use Rattle.std.specs.Option.{option_or}
use Rattle.std.specs.Str.{bytes_eq}
use Rattle.edn_reader.specs.declared.fault.EdnFault.{EdnFault}
use Rattle.edn_reader.specs.Fault.{AreElementsBefore, FaultOf}
use Rattle.edn_reader.specs.Grammar.{ElementModel}
use Rattle.edn_reader.specs.Text.{IsText}
use Rattle.jepsen_form.specs.Mention.{IsMention, MentionModel}

-- a register that traces name, and the process that writes it first in them, where one does
pub record NamedModel : Type 0 where
  pub name : List ℕ
  pub writer : Option ℤ

-- what is named so far: the registers, and the first process that writes, with a name or without
pub record NamesModel : Type 0 where
  pub registers : List NamedModel
  pub first_writer : Option ℤ

-- nothing is named
abbrev pub no_names : NamesModel
no_names = record { registers = []; first_writer = None }

-- the registers, each once, with one more mention of this name and this optional writer: a new one comes last
abbrev pub with_name : List NamedModel → List ℕ → Option ℤ → List NamedModel
with_name [] name writer = record { name = name; writer = writer } ∷ []
with_name (first ∷ registers) name writer =
    if bytes_eq name first.name then record { name = first.name; writer = option_or first.writer writer } ∷ registers
    else first ∷ with_name registers name writer

-- whether one of these registers has this name
abbrev pub has_name : List NamedModel → List ℕ → Bool
has_name [] name = false
has_name (first ∷ registers) name = bytes_eq name first.name || has_name registers name

-- no two of these registers have one name
abbrev pub AreEachOnce : List NamedModel → Type 0
AreEachOnce [] = Unit {0}
AreEachOnce (first ∷ registers) = (has_name registers first.name ≡ false) × AreEachOnce registers

-- the registers, with one more mention by this optional name and this optional writer
abbrev pub with_said : List NamedModel → Option (List ℕ) → Option ℤ → List NamedModel
with_said registers None writer = registers
with_said registers (Some name) writer = with_name registers name writer

-- what is named, with what one more element says
abbrev pub with_mention : NamesModel → Option MentionModel → NamesModel
with_mention named None = named
with_mention named (Some mention) = record {
  registers = with_said named.registers mention.name mention.writer;
  first_writer = option_or named.first_writer mention.writer;
}

-- the elements of a text, which has no fault; or those before this first fault of it
abbrev pub AreElementsOf : List ℕ → Option EdnFault → List ElementModel → Type 0
AreElementsOf text None pieces = IsText text pieces
AreElementsOf text (Some fault) pieces = FaultOf text fault × AreElementsBefore text pieces

-- what is named after a text, which has this first fault or none, by what its elements say in turn
pub record NamesAfter (before : NamesModel) (text : List ℕ) (fault : Option EdnFault) (after : NamesModel) : Type 0 where
  pub pieces : List ElementModel
  pub elements : AreElementsOf text fault pieces
  pub mentions : List (Option MentionModel)
  pub each : AllZip IsMention pieces mentions
  pub after_is : after ≡ fold with_mention before mentions

-- what is named after these texts, in turn, each of which has this first fault or none
pub data AreNamesAfter : NamesModel → List (List ℕ) → List (Option EdnFault) → NamesModel → Type 0 where
  none : {named : NamesModel} → AreNamesAfter named [] [] named
  next : {before between after : NamesModel} {text : List ℕ} {texts : List (List ℕ)} {fault : Option EdnFault} {faults : List (Option EdnFault)}
      → NamesAfter before text fault between → AreNamesAfter between texts faults after
      → AreNamesAfter before (text ∷ texts) (fault ∷ faults) after

-- the registers of a tower of these names, where this process writes first: the one register `r` where there is no name,
-- and where there is one alone, all values are of that one
abbrev pub registers_or : List NamedModel → Option ℤ → List NamedModel
registers_or [] writer = record { name = codes "r"; writer = writer } ∷ []
registers_or (only ∷ []) writer = record { name = only.name; writer = writer } ∷ []
registers_or (first ∷ second ∷ registers) writer = first ∷ second ∷ registers

-- the registers of a tower of what is named, each with the process that writes it first
abbrev pub registers_named : NamesModel → List NamedModel
registers_named named = registers_or named.registers named.first_writer
