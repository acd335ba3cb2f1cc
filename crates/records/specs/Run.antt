-- The records of a run.
use Rattle.std.specs.Prelude.{◌≡◌, ℕ, Bool, not, ◌||◌, ◌+◌, ◌-◌, ◌^◌, min, List, [], ◌∷◌, ◌++◌, IsTrue, Option, Some, None, count_by, flat_map, is_some, length, map, option_map, if◌then◌else◌}
use Rattle.std.specs.List.{list_any, slice_get}
use Rattle.std.specs.Option.{option_map_or}
use Rattle.intervals.specs.declared.operation.OpId.{OpId}
use Rattle.intervals.specs.declared.operation.RegId.{RegId}
use Rattle.tower_file.specs.Contents.{Register, TowerModel}
use Rattle.shards.specs.Closing.{ClosedShard}
use Rattle.logs.specs.declared.log.Broken.{Broken}
use Rattle.logs.specs.declared.log.Line.{Line}
use Rattle.logs.specs.declared.log.Log.{Log}
use Rattle.logs.specs.declared.log.What.{What}
use Rattle.logs.specs.declared.log.What.TheVariants.{Refused, Answered}
use Rattle.places.specs.Spots.{HasSpots, PlacesModel}
use Rattle.report.specs.declared.finding.Finding.{Finding}
use Rattle.report.specs.declared.doubt.Doubt.{Doubt}
use Rattle.report.specs.Doubt.{AreDoubts, left_out_at, rests_at}
use Rattle.report.specs.Culprit.{culprits_of, is_culprit}
use Rattle.report.specs.Finding.{AreFindings, fails_of}
use Rattle.report.specs.Listing.{level_name}
use Rattle.phrases.specs.Names.{register_name}
use Rattle.report.specs.Order.{IsAsked}
use Rattle.report.specs.Refused.{refused}
use Rattle.report.specs.Few.{operations}
use Rattle.report.specs.declared.few.Least.{Least}
use Rattle.report.specs.Summary.{is_broken, is_failing}
use Rattle.records.specs.declared.allowed.Allowed.{Allowed}
use Rattle.records.specs.declared.ends.Totals.{Totals}
use Rattle.records.specs.declared.line.Notation.{Notation}
use Rattle.records.specs.declared.run.Form.{Form}
use Rattle.records.specs.Ends.{end_of_records, head_record, order_symbols}
use Rattle.records.specs.Explained.{AreAllowed}
use Rattle.records.specs.Line.{record_line}
use Rattle.records.specs.Log.{answer_symbols, placed_break, placed_refusal}
use Rattle.records.specs.Register.{register_symbols}
use Rattle.records.specs.Symbol.{Symbol}

-- a register has a record: each has one, or only those that fail
abbrev pub has_record : Bool → Finding → Bool
has_record only finding = not only || is_failing finding

-- the record of the register of this number, as a list; none where there is no such register
abbrev pub register_record : PlacesModel → TowerModel → List Bool → List Doubt → ℕ → Finding → List Allowed → List (List Symbol)
register_record places tower failing doubts n finding allowed =
    option_map_or
    (λ register. register_symbols places n (level_name tower.levels register.level) register.name finding (is_culprit failing n register) allowed (left_out_at doubts n) (rests_at doubts n) ∷ [])
    (slice_get tower.registers n) []

-- the record of a register, as a list; none where it has none
abbrev pub one_record : PlacesModel → TowerModel → List Bool → List Doubt → Bool → ℕ → Finding → List Allowed → List (List Symbol)
one_record places tower failing doubts only n finding allowed = if has_record only finding then register_record places tower failing doubts n finding allowed else []

-- the records of the registers from this number on
abbrev pub registers_records : PlacesModel → TowerModel → List Bool → List Doubt → Bool → ℕ → List Finding → List (List Allowed) → List (List Symbol)
registers_records places tower failing doubts only n [] others = []
registers_records places tower failing doubts only n (finding ∷ findings) [] = []
registers_records places tower failing doubts only n (finding ∷ findings) (allowed ∷ others) =
    one_record places tower failing doubts only n finding allowed ++ registers_records places tower failing doubts only (n + 1) findings others

-- the record of a refusal or of an answer
abbrev pub what_record : PlacesModel → List Register → ℕ → ℕ → What → List Symbol
what_record places registers feeder event (Refused left_out) = placed_refusal places feeder event left_out.code
what_record places registers feeder event (Answered register answer) =
    answer_symbols places feeder event (register_name registers register) answer.holds answer.operations

-- the record of a log line of a trace
abbrev pub line_record : PlacesModel → List Register → ℕ → Line → List Symbol
line_record places registers feeder line = what_record places registers feeder line.event line.what

-- the record of a break, as a list; none where the trace did not break
abbrev pub broken_records : PlacesModel → ℕ → Option Broken → List (List Symbol)
broken_records places feeder None = []
broken_records places feeder (Some broken) = placed_break places feeder broken ∷ []

-- the records of a trace
abbrev pub log_records : PlacesModel → List Register → ℕ → Log → List (List Symbol)
log_records places registers feeder log = map (line_record places registers feeder) log.lines.items ++ broken_records places feeder log.broken

-- the records of several traces, of which the first has this number
abbrev pub logs_records : PlacesModel → List Register → ℕ → List Log → List (List Symbol)
logs_records places registers feeder [] = []
logs_records places registers feeder (log ∷ logs) = log_records places registers feeder log ++ logs_records places registers (feeder + 1) logs

-- the record of the order that is asked for, as a list; none where none is
abbrev pub asked_records : List Register → Option (RegId × Option (List OpId)) → List (List Symbol)
asked_records registers None = []
asked_records registers (Some found) = order_symbols (register_name registers found.0) found.1 ∷ []

-- a number, or 2^64 - 1 where it is greater
abbrev pub at_most_u64 : ℕ → ℕ
at_most_u64 n = min n (2 ^ 64 - 1)

-- the totals of a run
abbrev pub totals_of : TowerModel → List Finding → List Log → Totals
totals_of tower findings logs = record {
  registers = length tower.registers;
  failing = count_by is_failing findings;
  culprits = length (culprits_of tower findings);
  operations = at_most_u64 (operations findings);
  refused = at_most_u64 (refused logs);
  broken = count_by is_broken logs;
}

-- the log has a refusal, an answer or a break
abbrev pub says_anything : Log → Bool
says_anything log = is_some (slice_get log.lines.items 0) || is_broken log

-- a record names an element: a register fails, or a log has a refusal, an answer or a break
abbrev pub names_elements : List Finding → List Log → Bool
names_elements findings logs = list_any is_failing findings || list_any says_anything logs

-- these are the texts, and the spots of their elements wherever a record names an element
pub record AreRunPlaces (texts : List (List ℕ)) (findings : List Finding) (logs : List Log) (places : PlacesModel) : Type 0 where
  pub of_texts : places.texts ≡ texts
  pub spots : IsTrue (names_elements findings logs) → HasSpots places

-- all records of a run between the first and the last
abbrev pub middle_records : PlacesModel → TowerModel → Bool → List Finding → List Doubt → List (List Allowed) → List Log → Option (RegId × Option (List OpId)) → List (List Symbol)
middle_records places tower only findings doubts allowed logs asked =
    registers_records places tower (fails_of findings) doubts only 0 findings allowed ++ logs_records places tower.registers 0 logs ++ asked_records tower.registers asked

-- what the first record of a run names, the optional tower file, the traces, and the field that has the moments; and the last:
-- how many operations have to stand, at least
pub record RunNames : Type 0 where
  pub tower : Option (List ℕ)
  pub traces : List (List ℕ)
  pub moments : List ℕ
  pub least : Least

-- what the first and the last record name, by the form in which records are written
abbrev pub names_of : Form → RunNames
names_of form = record { tower = option_map (λ name. name.now) form.tower; traces = map (λ name. name.now) form.traces.now; moments = form.moments.now; least = form.least }

-- all records of a run
abbrev pub records_of : PlacesModel → RunNames → Bool → ℕ → TowerModel → List Finding → List Doubt → List (List Allowed) → List Log → Option (RegId × Option (List OpId)) → List (List Symbol)
records_of places names only status tower findings doubts allowed logs asked =
    (head_record names.tower (length tower.registers) names.traces names.moments ∷ [])
    ++ middle_records places tower only findings doubts allowed logs asked
    ++ end_of_records status (totals_of tower findings logs) names.least ∷ []

-- the records of what is found of each register, of these logs, and of the order that is asked for, if any, with the
-- lines and the bytes of elements in these texts
pub record AreRecordsOfRun (names : RunNames) (only : Bool) (status : ℕ) (tower : TowerModel) (closed : List ClosedShard) (logs : List Log) (order : Option RegId) (texts : List (List ℕ)) (records : List (List Symbol)) : Type 0 where
  pub findings : List Finding
  pub many : length findings ≡ length tower.registers
  pub found : AreFindings closed 0 findings
  pub doubts : List Doubt
  pub doubted : AreDoubts findings logs doubts
  pub allowed : List (List Allowed)
  pub explained : AreAllowed tower closed 0 findings allowed
  pub asked : Option (RegId × Option (List OpId))
  pub is_asked : IsAsked closed order asked
  pub places : PlacesModel
  pub are_places : AreRunPlaces texts findings logs places
  pub records_are : records ≡ records_of places names only status tower findings doubts allowed logs asked

-- the text of records: each on a line of its own
abbrev pub lines_of : Notation → List (List Symbol) → List ℕ
lines_of notation records = flat_map (record_line notation) records

-- the lines of the records of a run, part by part
abbrev pub run_lines : PlacesModel → Notation → RunNames → Bool → ℕ → TowerModel → List Finding → List Doubt → List (List Allowed) → List Log → Option (RegId × Option (List OpId)) → List ℕ
run_lines places notation names only status tower findings doubts allowed logs asked =
    record_line notation (head_record names.tower (length tower.registers) names.traces names.moments)
    ++ lines_of notation (registers_records places tower (fails_of findings) doubts only 0 findings allowed)
    ++ lines_of notation (logs_records places tower.registers 0 logs)
    ++ lines_of notation (asked_records tower.registers asked)
    ++ record_line notation (end_of_records status (totals_of tower findings logs) names.least)

-- the text has the records of a run, each on a line of its own
pub record IsTextOfRecords (notation : Notation) (names : RunNames) (only : Bool) (status : ℕ) (tower : TowerModel) (closed : List ClosedShard) (logs : List Log) (order : Option RegId) (texts : List (List ℕ)) (text : List ℕ) : Type 0 where
  pub records : List (List Symbol)
  pub are : AreRecordsOfRun names only status tower closed logs order texts records
  pub text_is : text ≡ lines_of notation records
