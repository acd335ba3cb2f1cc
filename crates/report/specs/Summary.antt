-- The text of a summary.
use Rattle.std.specs.Prelude.{◌≡◌, ℕ, Bool, true, false, List, [], ◌∷◌, ◌++◌, ◌&&◌, flat_map, filter, length, map, not, take, is_some, is_none, codes, nat_eq, if◌then◌else◌, count_by}
use Rattle.std.specs.Option.{option_map_or}
use Rattle.std.specs.List.{range_with_len, slice_get}
use Rattle.std.specs.Fmt.{decimal}
use Rattle.intervals.specs.declared.claim.Kind.{Kind}
use Rattle.intervals.specs.declared.claim.Kind.TheVariants.{Safe, Regular, Atomic}
use Rattle.intervals.specs.declared.operation.RegId.{RegId}
use Rattle.tower_file.specs.Contents.{TowerModel, Register}
use Rattle.shards.specs.Closing.{ClosedShard}
use Rattle.logs.specs.declared.log.Log.{Log}
use Rattle.report.specs.declared.finding.Finding.{Finding}
use Rattle.phrases.specs.Names.{printed, register_name, kind_word}
use Rattle.report.specs.Finding.{AreFindings, fails_of}
use Rattle.report.specs.Culprit.{culprits_of}
use Rattle.report.specs.Notes.{broken_line}
use Rattle.report.specs.declared.doubt.Doubt.{Doubt}
use Rattle.report.specs.Doubt.{AreDoubts}
use Rattle.report.specs.Doubted.{doubted_text}
use Rattle.report.specs.Few.{few_text, operations}
use Rattle.report.specs.declared.few.Least.{Least}
use Rattle.report.specs.Failing.{blamed_line, ids_of_tower, lines_text, more_text, other_line, others_of}
use Rattle.report.specs.Refused.{in_a_row, refused, refused_text}

-- a number and a word, which gets an s unless the number is 1
abbrev pub counted : ℕ → List ℕ → List ℕ
counted many word = decimal many ++ codes " " ++ word ++ (if nat_eq many 1 then [] else codes "s")

-- the register fails, by what is found of it
abbrev pub is_failing : Finding → Bool
is_failing finding = is_some finding.witness

-- the trace of this log broke
abbrev pub is_broken : Log → Bool
is_broken log = is_some log.broken

-- how many elements were refused, in the first line of a summary
abbrev pub refusals_text : ℕ → List ℕ
refusals_text many = if nat_eq many 0 then codes ", none refused" else codes ", " ++ decimal many ++ codes " refused"

-- how many traces broke, in the first line of a summary; empty where none did
abbrev pub breaks_text : ℕ → List ℕ
breaks_text many = if nat_eq many 0 then [] else codes ", " ++ counted many (codes "trace") ++ codes " broken"

-- how many registers fail, and of how many, in the first line of a summary
abbrev pub failed_text : ℕ → ℕ → List ℕ
failed_text failing many = decimal failing ++ codes " of " ++ decimal many ++ codes " registers fail, "

-- how many registers are to blame, in the first line of a summary
abbrev pub culprit_count_text : ℕ → List ℕ
culprit_count_text blamed = decimal blamed ++ codes " to blame; "

-- how many operations the run judged, and in how many traces, in the first line of a summary
abbrev pub over_text : List Finding → List Log → List ℕ
over_text findings logs = counted (operations findings) (codes "operation") ++ codes " in " ++ counted (length logs) (codes "trace")

-- how many elements were refused and how many traces broke, in the first line of a summary
abbrev pub amiss_text : List Log → List ℕ
amiss_text logs = refusals_text (refused logs) ++ breaks_text (count_by is_broken logs) ++ 10 ∷ []

-- the first line of a summary, of a run with so many culprits
abbrev pub first_line : TowerModel → List Finding → ℕ → List Log → List ℕ
first_line tower findings blamed logs = failed_text (count_by is_failing findings) (length tower.registers) ++ culprit_count_text blamed ++ over_text findings logs ++ amiss_text logs

-- the lines of these culprits, and of the other registers that fail
abbrev pub failing_lines : TowerModel → List Finding → List Bool → List RegId → List ℕ
failing_lines tower findings fails culprits =
    lines_text (blamed_line tower findings) culprits ++ lines_text (other_line tower findings fails) (others_of tower fails)

-- the lines of the registers that fail: the culprits, and the others
abbrev pub failing_text : TowerModel → List Finding → List ℕ
failing_text tower findings = failing_lines tower findings (fails_of findings) (culprits_of tower findings)

-- two kinds are equal
abbrev pub same_kind : Kind → Kind → Bool
same_kind Safe Safe = true
same_kind Safe Regular = false
same_kind Safe Atomic = false
same_kind Regular Safe = false
same_kind Regular Regular = true
same_kind Regular Atomic = false
same_kind Atomic Safe = false
same_kind Atomic Regular = false
same_kind Atomic Atomic = true

-- the register is of this kind and holds, by what is found of it
abbrev pub holds_as : Kind → Finding → Bool
holds_as kind finding = is_none finding.witness && same_kind finding.kind kind

-- how many registers of this kind hold
abbrev pub many_held_as : List Finding → Kind → ℕ
many_held_as findings kind = count_by (holds_as kind) findings

-- some register of this kind holds
abbrev pub is_held_as : List Finding → Kind → Bool
is_held_as findings kind = not (nat_eq (many_held_as findings kind) 0)

-- how many registers of this kind hold, in the line of those that hold
abbrev pub kind_text : List Finding → Kind → List ℕ
kind_text findings kind = decimal (many_held_as findings kind) ++ codes " " ++ kind_word kind

-- how many registers of each of these kinds hold, where any does, the first after this text
abbrev pub some_kinds_text : List Finding → List ℕ → List Kind → List ℕ
some_kinds_text findings before kinds = in_a_row before (map (kind_text findings) (filter (is_held_as findings) kinds))

-- the register is there and has no operation
abbrev pub is_idle : List Finding → RegId → Bool
is_idle findings id = option_map_or (λ finding. nat_eq finding.operations 0) (slice_get findings id.0) false

-- all registers without any operation, by number
abbrev pub idle_of : TowerModel → List Finding → List RegId
idle_of tower findings = filter (is_idle findings) (ids_of_tower tower)

-- a space and the name of a register
abbrev pub name_text : List Register → RegId → List ℕ
name_text registers id = codes " " ++ printed (register_name registers id)

-- the names of the first 10 of some registers, and how many more there are
abbrev pub names_text : TowerModel → List RegId → List ℕ
names_text tower ids = flat_map (name_text tower.registers) (take 10 ids) ++ more_text (codes " and ") 10 (length ids) (codes " more")

-- how many registers have no operation, in the line of those that hold
abbrev pub idle_count_text : ℕ → List ℕ
idle_count_text many = codes "; " ++ decimal many ++ codes " without any operation:"

-- how many registers have no operation, and which; empty where there is none
abbrev pub idle_text : TowerModel → List RegId → List ℕ
idle_text tower idle = if nat_eq (length idle) 0 then [] else idle_count_text (length idle) ++ names_text tower idle

-- how many registers of each kind hold, where any does, in the line of those that hold
abbrev pub kinds_text : List Finding → List ℕ
kinds_text findings = some_kinds_text findings (codes ": ") (Safe ∷ Regular ∷ Atomic ∷ [])

-- the register holds, by what is found of it
abbrev pub is_holding : Finding → Bool
is_holding finding = is_none finding.witness

-- how many registers hold, in the line of those that hold
abbrev pub held_text : List Finding → List ℕ
held_text findings = decimal (count_by is_holding findings) ++ codes " hold"

-- the line of the registers that hold: how many, of each kind that any is of, and those without any operation
abbrev pub holding_text : TowerModel → List Finding → List ℕ
holding_text tower findings = held_text findings ++ kinds_text findings ++ idle_text tower (idle_of tower findings) ++ 10 ∷ []

-- the trace of this number broke
abbrev pub breaks_at : List Log → ℕ → Bool
breaks_at logs feeder = option_map_or is_broken (slice_get logs feeder) false

-- the numbers of all traces that broke
abbrev pub broken_of : List Log → List ℕ
broken_of logs = filter (breaks_at logs) (range_with_len 0 (length logs))

-- the line that says where the trace of this number broke; empty where it did not
abbrev pub break_line : List Log → ℕ → List ℕ
break_line logs feeder = option_map_or (λ log. broken_line feeder log.broken) (slice_get logs feeder) []

-- the lines of the first 10 traces that broke, and how many more there are
abbrev pub broken_text : List Log → List ℕ
broken_text logs =
    flat_map (break_line logs) (take 10 (broken_of logs)) ++ more_text (codes "and ") 10 (length (broken_of logs)) (codes " more" ++ 10 ∷ [])

-- the lines below those of the registers: the refusals by code, what broke, and what is too few
abbrev pub ends_text : Least → List Finding → List Log → List ℕ
ends_text least findings logs = refused_text logs ++ broken_text logs ++ few_text least findings

-- the first line, and the lines of the registers that fail, of those in doubt, and of those that hold
abbrev pub registers_text : TowerModel → List Finding → List Doubt → List Log → List ℕ
registers_text tower findings doubts logs =
    first_line tower findings (length (culprits_of tower findings)) logs ++ failing_text tower findings ++ doubted_text tower doubts ++ holding_text tower findings

-- the text of a summary: the registers, the refusals by code, what broke, and what is too few
abbrev pub summary_text : TowerModel → Least → List Finding → List Doubt → List Log → List ℕ
summary_text tower least findings doubts logs = registers_text tower findings doubts logs ++ ends_text least findings logs

-- the text is the summary of what is found of each register, and of these logs, where at least so many operations have to
-- stand
pub record IsSummary (tower : TowerModel) (least : Least) (closed : List ClosedShard) (logs : List Log) (text : List ℕ) : Type 0 where
  pub findings : List Finding
  pub many : length findings ≡ length tower.registers
  pub found : AreFindings closed 0 findings
  pub doubts : List Doubt
  pub doubted : AreDoubts findings logs doubts
  pub text_is : text ≡ summary_text tower least findings doubts logs
