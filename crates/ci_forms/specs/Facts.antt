-- What a CI server is told of a run, and what is told to each in the same words.
use Rattle.std.specs.Prelude.{ℕ, Bool, false, List, [], ◌∷◌, ◌++◌, Option, Some, None, codes, flat_map, map, option_map, unwrap_or, count_by, length}
use Rattle.std.specs.Option.{option_map_or}
use Rattle.std.specs.List.{slice_get}
use Rattle.std.specs.Fmt.{decimal}
use Rattle.intervals.specs.declared.claim.Kind.{Kind}
use Rattle.intervals.specs.declared.operation.OpId.{OpId}
use Rattle.intervals.specs.declared.operation.RegId.{RegId}
use Rattle.tower_file.specs.Contents.{TowerModel}
use Rattle.register_book.specs.declared.fault.InRole.{InRole}
use Rattle.register_book.specs.declared.fault.Witness.{Witness}
use Rattle.register_book.specs.Fault.{ids_of, roles_of}
use Rattle.logs.specs.Code.{break_code_of}
use Rattle.logs.specs.declared.log.Broken.{Broken}
use Rattle.logs.specs.declared.log.Log.{Log}
use Rattle.phrases.specs.Fault.{fault_text}
use Rattle.phrases.specs.Names.{kind_word, place_text}
use Rattle.places.specs.Spots.{PlacesModel, located}
use Rattle.report.specs.declared.doubt.Doubt.{Doubt}
use Rattle.report.specs.declared.few.Least.{Least}
use Rattle.report.specs.declared.finding.Finding.{Finding}
use Rattle.report.specs.Culprit.{is_culprit}
use Rattle.report.specs.Few.{few_each_line, few_line, has_fewer, operations}
use Rattle.report.specs.Finding.{fails_of}
use Rattle.ci_forms.specs.declared.facts.TheConstants.{IN_DOUBT}
use Rattle.ci_forms.specs.declared.told.CiRun.{CiRun}

-- what a CI server is told of: where elements are, the names of the traces, the tower, what is found of each register and
-- what is in doubt of it, the logs, and how many operations have to stand, at least
pub record CiFacts : Type 0 where
  pub places : PlacesModel
  pub traces : List (List ℕ)
  pub tower : TowerModel
  pub findings : List Finding
  pub doubts : List Doubt
  pub logs : List Log
  pub least : Least

-- the same, of a run as it is lent
abbrev pub facts_of : CiRun → CiFacts
facts_of run = record {
  places = run.places.now;
  traces = map (λ name. name.now) run.form.now.traces.now;
  tower = run.tower.now;
  findings = run.each.now;
  doubts = run.doubts.now;
  logs = run.logs.now;
  least = run.form.now.least;
}

-- several texts, one after the other
abbrev pub concatenated : List (List ℕ) → List ℕ
concatenated texts = flat_map (λ text. text) texts

-- the name of the trace of this number; empty where there is none
abbrev pub trace_name : List (List ℕ) → ℕ → List ℕ
trace_name traces feeder = unwrap_or (slice_get traces feeder) []

-- the line of an operation's invocation; none where it is not known
abbrev pub op_line : PlacesModel → OpId → Option ℕ
op_line places id = option_map (λ spot. spot.place.line) (located places id.feeder id.event)

-- the id of the first operation in slots, of those that have one; none where none has
abbrev pub first_in_slots : List (Option InRole) → Option OpId
first_in_slots [] = None
first_in_slots (None ∷ slots) = first_in_slots slots
first_in_slots (Some one ∷ slots) = Some one.op.id

-- the id of the first operation of a witness, or none
abbrev pub first_shown : Witness → Option OpId
first_shown witness = first_in_slots (roles_of witness)

-- a register is a culprit
abbrev pub is_to_blame : CiFacts → RegId → Bool
is_to_blame facts id = option_map_or (is_culprit (fails_of facts.findings) id.0) (slice_get facts.tower.registers id.0) false

-- what is said of a failure that rests on elements that were left out, by the first of them; empty where it rests on none
unfoldable pub doubt_words : Option (ℕ × ℕ) → List ℕ
doubt_words None = []
doubt_words (Some at) = IN_DOUBT.now ++ place_text at.0 at.1 ++ codes ")"

-- why a register fails: the kind that it claims to be, the fault, and the first element on which that rests, if any
unfoldable pub why_text : Kind → Witness → Option (ℕ × ℕ) → List ℕ
why_text kind witness rests = kind_word kind ++ codes ": " ++ fault_text (ids_of witness) ++ doubt_words rests

-- by which code and at which byte the trace of this number broke
unfoldable pub break_text : ℕ → Broken → List ℕ
break_text feeder broken = codes "broken " ++ decimal feeder ++ codes " " ++ break_code_of broken.code ++ codes " at " ++ decimal broken.place

-- the line of what is too few in all registers together; empty where nothing is
abbrev pub few_of_all : Least → List Finding → List ℕ
few_of_all least findings = few_line (operations findings) least.all

-- the line of what is too few in some registers; empty where nothing is
abbrev pub few_of_each : Least → List Finding → List ℕ
few_of_each least findings = few_each_line (count_by (has_fewer least.each) findings) (length findings) least.each
