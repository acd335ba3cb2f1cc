-- The trace of the operations that show how the registers of a run fail, and that they fail alike in a run of it alone.
use Rattle.std.specs.Prelude.{◌≡◌, ◌&&◌, ◌||◌, is_none, ℕ, ◌+◌, true, false, Bool, List, [], ◌∷◌, ◌++◌, Option, Some, None, codes, flat_map, length, if◌then◌else◌}
use Rattle.std.specs.List.{AllZip, list_any, slice_get}
use Rattle.std.specs.Str.{bytes_eq}
use Rattle.intervals.specs.declared.claim.Kind.{Kind}
use Rattle.intervals.specs.declared.operation.Op.{Op}
use Rattle.intervals.specs.Terms.{RegisterState}
use Rattle.jepsen_form.specs.declared.item.MomentField.{MomentField}
use Rattle.tower_file.specs.Contents.{Register, TowerModel}
use Rattle.register_book.specs.declared.fault.Fault.{Fault}
use Rattle.register_book.specs.declared.fault.Fault.TheVariants.{Wrong, Unwritten, Split, Early, Crossing}
use Rattle.register_book.specs.declared.fault.Witness.{Witness}
use Rattle.register_book.specs.Fault.{ids_of}
use Rattle.shards.specs.Closing.{ClosedShard, book_of}
use Rattle.logs.specs.declared.log.Log.{Log}
use Rattle.logs.specs.Run.{IsRun}
use Rattle.feeders.specs.Readers.{AreReadOf}
use Rattle.phrases.specs.Names.{kind_word}
use Rattle.report.specs.declared.finding.Finding.{Finding}
use Rattle.report.specs.Finding.{AreFindings}
use Rattle.report.specs.Refused.{refused}
use Rattle.report.specs.Summary.{is_broken}
use Rattle.excerpt.specs.Event.{claim_text, operation_events}
use Rattle.excerpt.specs.Shown.{AreShown}

-- the edit that claims the kind by which the register of this name is judged, where its tower says another one
abbrev pub claimed_text : List ℕ → Kind → Kind → List ℕ
claimed_text name said kind = if bytes_eq (kind_word kind) (kind_word said) then [] else claim_text name kind

-- these are the events of the operations that show how a register fails, by its name, the kind that its tower says, its
-- operations, its kind and its witness; nothing where it holds
abbrev pub IsPartBy : MomentField → List ℕ → Kind → List Op → Kind → Option Witness → List ℕ → Type 0
IsPartBy field name said ops kind None text = text ≡ []
IsPartBy field name said ops kind (Some witness) text =
    (shown : List Op) × AreShown ops witness shown × (text ≡ claimed_text name said kind ++ flat_map (operation_events field name) shown)

-- the same of a register of a tower and its book; nothing where one of them is not there
abbrev pub IsPartIn : MomentField → Option Register → Option RegisterState → Finding → List ℕ → Type 0
IsPartIn field None held finding text = text ≡ []
IsPartIn field (Some register) None finding text = text ≡ []
IsPartIn field (Some register) (Some held) finding text = IsPartBy field register.name register.claim.kind held.ops finding.kind finding.witness text

-- the same of the registers from this number on
abbrev pub AreParts : MomentField → TowerModel → List ClosedShard → ℕ → List Finding → List ℕ → Type 0
AreParts field tower closed n [] text = text ≡ []
AreParts field tower closed n (finding ∷ findings) text =
    (part : List ℕ) × (rest : List ℕ) × IsPartIn field (slice_get tower.registers n) (book_of closed n) finding part
    × AreParts field tower closed (n + 1) findings rest × (text ≡ part ++ rest)

-- in which way a register fails, in a word
abbrev pub way_word : Fault → List ℕ
way_word (Wrong read) = codes "wrong"
way_word (Unwritten read) = codes "unwritten"
way_word (Split first second) = codes "split"
way_word (Early read write) = codes "early"
way_word (Crossing a b c d) = codes "conflict"

-- whether a register holds, or in which way it fails, in a word
abbrev pub outcome_word : Option Witness → List ℕ
outcome_word None = codes "holds"
outcome_word (Some witness) = way_word (ids_of witness)

-- two registers hold both, or are of one kind and fail in one way
abbrev pub are_alike : Finding → Finding → Bool
are_alike finding other =
    bytes_eq (outcome_word finding.witness) (outcome_word other.witness) && (is_none finding.witness || bytes_eq (kind_word finding.kind) (kind_word other.kind))

-- two registers are alike, by what is found of them
abbrev pub AreAlike : Finding → Finding → Type 0
AreAlike finding other = are_alike finding other ≡ true

-- the run of a text: its one trace is all of it, nothing of it is refused, and of each register is found what is alike
pub record FailsAlike (tower : TowerModel) (field : MomentField) (text : List ℕ) (findings : List Finding) : Type 0 where
  pub closed : List ClosedShard
  pub logs : List Log
  pub traces : List (List ℕ)
  pub read : AreReadOf (Some text ∷ []) logs traces
  pub run : IsRun tower field 1 traces closed logs
  pub again : List Finding
  pub found : AreFindings closed 0 again
  pub alike : AllZip AreAlike findings again
  pub whole : list_any is_broken logs ≡ false
  pub taken : refused logs ≡ 0

-- the text is the trace of the operations that show how the registers of a run fail, by what is found of them; and in a run
-- of it alone each of them fails in the same way, and all others hold
pub record IsExcerpt (tower : TowerModel) (field : MomentField) (closed : List ClosedShard) (findings : List Finding) (text : List ℕ) : Type 0 where
  pub parts : AreParts field tower closed 0 findings text
  pub fails : FailsAlike tower field text findings

-- the text is the excerpt of a run by what is found of each register
abbrev pub IsTextOfExcerpt : TowerModel → MomentField → List ClosedShard → List ℕ → Type 0
IsTextOfExcerpt tower field closed text =
    (findings : List Finding) × (length findings ≡ length tower.registers) × AreFindings closed 0 findings × IsExcerpt tower field closed findings text
