-- What is found of a run as the XML of JUnit.
use Rattle.std.specs.Prelude.{ℕ, ◌+◌, Bool, List, [], ◌∷◌, ◌++◌, Option, Some, None, codes, count_by, flat_map, length, nat_eq, if◌then◌else◌}
use Rattle.std.specs.Borrow.{Bor}
use Rattle.std.specs.Fmt.{decimal}
use Rattle.intervals.specs.declared.claim.Kind.{Kind}
use Rattle.intervals.specs.declared.operation.Op.{Op}
use Rattle.intervals.specs.declared.operation.RegId.{RegId}
use Rattle.tower_file.specs.Contents.{TowerModel}
use Rattle.register_book.specs.declared.fault.Witness.{Witness}
use Rattle.register_book.specs.Fault.{ops_in_roles, roles_of}
use Rattle.logs.specs.Code.{break_code_of}
use Rattle.logs.specs.declared.log.Broken.{Broken}
use Rattle.logs.specs.declared.log.Log.{Log}
use Rattle.phrases.specs.Names.{register_name}
use Rattle.places.specs.Spots.{line_of_byte}
use Rattle.report.specs.declared.finding.Finding.{Finding}
use Rattle.report.specs.Doubted.{first_rested}
use Rattle.report.specs.Failing.{level_of}
use Rattle.report.specs.Few.{few_text}
use Rattle.report.specs.Listing.{level_name}
use Rattle.report.specs.Summary.{is_broken, is_failing}
use Rattle.ci_forms.specs.declared.junit.TheConstants.{ENOUGH, ERROR, ERRORS, ERROR_END, FAILURE, FAILURES, FAILURE_END, FEW, MESSAGE, OPENED, PROGRAM, SKIPPED, TESTS, TRACES}
use Rattle.ci_forms.specs.Facts.{CiFacts, break_text, is_to_blame, concatenated, op_line, trace_name, why_text}
use Rattle.ci_forms.specs.Xml.{xml_text}

-- the beginning of a case: its class and its name
unfoldable pub case_head : List ℕ → List ℕ → List ℕ
case_head class name = codes "  <testcase classname=\"" ++ xml_text class ++ codes "\" name=\"" ++ xml_text name ++ codes "\""

-- a colon and a line, where the line is known
abbrev pub line_part : Option ℕ → List ℕ
line_part None = []
line_part (Some line) = codes ":" ++ decimal line

-- a file, and the line in it where that is known, on a line of its own
abbrev pub place_line : List ℕ → Option ℕ → List ℕ
place_line name line = xml_text name ++ line_part line ++ 10 ∷ []

-- a text of an operation of a failure
abbrev pub shown_part : List ℕ → List ℕ
shown_part text = codes "  | " ++ xml_text text ++ 10 ∷ []

-- an optional text of an operation of a failure; empty where there is none
abbrev pub shown_part_of : Option (Bor (List ℕ)) → List ℕ
shown_part_of None = []
shown_part_of (Some text) = shown_part text.now

-- the texts of an operation of a failure: its invocation, its answer and its last amendment
abbrev pub shown_parts : Op → List ℕ
shown_parts op = shown_part op.parts.invocation.now ++ shown_part_of op.parts.answer ++ shown_part_of op.parts.amendment

-- an operation of a failure: the file and the line of its invocation, and its texts
unfoldable pub shown_text : CiFacts → Op → List ℕ
shown_text facts op = place_line (trace_name facts.traces op.id.feeder) (op_line facts.places op.id) ++ shown_parts op

-- what a failure is: that of a culprit, or of a register of which a part fails
abbrev pub failure_type : Bool → List ℕ
failure_type culprit = if culprit then codes "culprit" else codes "fails over a part"

-- an opening and what it is that is opened, up to its message
abbrev pub type_part : List ℕ → List ℕ → List ℕ
type_part opening what = opening ++ what ++ MESSAGE.now

-- the beginning of a failure: what it is, and why
unfoldable pub failure_head : Bool → Kind → Witness → Option (ℕ × ℕ) → List ℕ
failure_head culprit kind witness rests = type_part FAILURE.now (failure_type culprit) ++ why_text kind witness rests ++ OPENED.now

-- the end of the case of a register that fails: why, and the operations that show it
unfoldable pub failure_part : CiFacts → RegId → Kind → Witness → List ℕ
failure_part facts id kind witness =
    failure_head (is_to_blame facts id) kind witness (first_rested facts.doubts id)
    ++ flat_map (shown_text facts) (ops_in_roles (roles_of witness)) ++ FAILURE_END.now

-- the end of the case of a register
abbrev pub verdict_part : CiFacts → RegId → Kind → Option Witness → List ℕ
verdict_part facts id kind None = codes "/>\n"
verdict_part facts id kind (Some witness) = failure_part facts id kind witness

-- the number of a register's level; 0 where there is no such register
abbrev pub level_at : TowerModel → RegId → ℕ
level_at tower id = level_of tower.registers id

-- the case of a register: its level, its name, and why it fails where it does
unfoldable pub register_case : CiFacts → RegId → Finding → List ℕ
register_case facts id finding =
    case_head (level_name facts.tower.levels (level_at facts.tower id)) (register_name facts.tower.registers id) ++ verdict_part facts id finding.kind finding.witness

-- the cases of registers, of which the first has this number
abbrev pub register_cases : CiFacts → ℕ → List Finding → List (List ℕ)
register_cases facts number [] = []
register_cases facts number (finding ∷ findings) = register_case facts (record { 0 = number }) finding ∷ register_cases facts (number + 1) findings

-- the beginning of the error of a trace that broke
unfoldable pub break_part : ℕ → Broken → List ℕ
break_part feeder broken = type_part ERROR.now (break_code_of broken.code) ++ break_text feeder broken ++ OPENED.now

-- the case of a trace that broke
unfoldable pub break_case : CiFacts → ℕ → Broken → List ℕ
break_case facts feeder broken =
    case_head TRACES.now (trace_name facts.traces feeder) ++ break_part feeder broken
    ++ place_line (trace_name facts.traces feeder) (line_of_byte facts.places feeder broken.place) ++ ERROR_END.now

-- the case of the trace of this number as a list; none where it did not break
abbrev pub break_case_of : CiFacts → ℕ → Option Broken → List (List ℕ)
break_case_of facts feeder None = []
break_case_of facts feeder (Some broken) = break_case facts feeder broken ∷ []

-- the cases of traces, of which the first has this number
abbrev pub break_cases : CiFacts → ℕ → List Log → List (List ℕ)
break_cases facts feeder [] = []
break_cases facts feeder (log ∷ logs) = break_case_of facts feeder log.broken ++ break_cases facts (feeder + 1) logs

-- the case of what is too few, by the lines of it; empty where nothing is
unfoldable pub few_case : List ℕ → List ℕ
few_case few =
    if nat_eq (length few) 0 then []
    else case_head PROGRAM.now ENOUGH.now ++ FEW.now ++ few ++ FAILURE_END.now

-- how many cases there are for what is too few, by the lines of it
abbrev pub cases_for_few : List ℕ → ℕ
cases_for_few few = if nat_eq (length few) 0 then 0 else 1

-- how many cases there are, where so many are for what is too few
abbrev pub tests_of : CiFacts → ℕ → ℕ
tests_of facts few = length facts.findings + count_by is_broken facts.logs + few

-- how many cases fail, where so many are for what is too few
abbrev pub failures_of : CiFacts → ℕ → ℕ
failures_of facts few = count_by is_failing facts.findings + few

-- how many cases are of traces that broke
abbrev pub errors_of : CiFacts → ℕ
errors_of facts = count_by is_broken facts.logs

-- a number after a text
abbrev pub with_number : List ℕ → ℕ → List ℕ
with_number before number = before ++ decimal number

-- the beginning of the suite: how many cases there are, fail, and have an error
unfoldable pub suite_head : ℕ → ℕ → ℕ → List ℕ
suite_head tests failures errors = with_number TESTS.now tests ++ with_number FAILURES.now failures ++ with_number ERRORS.now errors ++ SKIPPED.now

-- the suite, by the lines of what is too few: a case for each register, for each trace that broke, and for what is too few
abbrev pub suite_text : CiFacts → List ℕ → List ℕ
suite_text facts few =
    suite_head (tests_of facts (cases_for_few few)) (failures_of facts (cases_for_few few)) (errors_of facts)
    ++ concatenated (register_cases facts 0 facts.findings) ++ concatenated (break_cases facts 0 facts.logs) ++ few_case few ++ codes "</testsuite>\n"

-- the suite of a run
abbrev pub junit_text : CiFacts → List ℕ
junit_text facts = suite_text facts (few_text facts.least facts.findings)

-- the case of what is too few as a list, by the lines of it; none where nothing is
abbrev pub few_cases : List ℕ → List (List ℕ)
few_cases few = if nat_eq (length few) 0 then [] else few_case few ∷ []

-- all cases of a run
abbrev pub cases_of : CiFacts → List (List ℕ)
cases_of facts = register_cases facts 0 facts.findings ++ break_cases facts 0 facts.logs ++ few_cases (few_text facts.least facts.findings)
