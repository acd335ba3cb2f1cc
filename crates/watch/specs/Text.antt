-- The texts of notices.
use Rattle.std.specs.Prelude.{ℕ, List, [], ◌∷◌, ◌++◌, Option, Some, None, codes}
use Rattle.std.specs.Fmt.{decimal}
use Rattle.register_book.specs.declared.fault.Fault.{Fault}
use Rattle.tower_file.specs.Contents.{Register}
use Rattle.shards.specs.declared.entry.VerdictChange.{VerdictChange}
use Rattle.logs.specs.Code.{refused_code}
use Rattle.logs.specs.declared.notice.Notice.{Notice}
use Rattle.logs.specs.declared.notice.Notice.TheVariants.{Changed, Refused, Broke, Ended}
use Rattle.phrases.specs.Names.{kind_word, place_text, printed, register_name, verdict_word}
use Rattle.report.specs.Notes.{broken_line}
use Rattle.phrases.specs.Fault.{fault_text}
use Rattle.records.specs.Json.{json_text}
use Rattle.records.specs.Notice.{notice_symbols}
use Rattle.watch.specs.Doubt.{left_out_before, rested_before}
use Rattle.watch.specs.declared.text.NoticeForm.{NoticeForm}
use Rattle.watch.specs.declared.text.NoticeForm.TheVariants as forms

-- why a register fails: a colon and the fault; empty where it holds
abbrev pub fault_part : Option Fault → List ℕ
fault_part None = []
fault_part (Some fault) = codes ": " ++ fault_text fault

-- a register whose verdict changed: the verdict, its name, its kind and how many operations stand
abbrev pub changed_text : List Register → VerdictChange → List ℕ
changed_text registers change =
    verdict_word change.holds ++ codes " " ++ printed (register_name registers change.register) ++ codes " " ++ kind_word change.kind ++ codes " " ++ decimal change.operations

-- the line of a notice: a change of a verdict, with the place of the element whose edit made it and why the register
-- fails; a refusal; where a trace broke; or that it ended, with how many elements
abbrev pub line_of_notice : List Register → Notice → List ℕ
line_of_notice registers (Changed feeder place line change) = changed_text registers change ++ codes " at " ++ place_text feeder place ++ fault_part change.fault ++ 10 ∷ []
line_of_notice registers (Refused feeder place line left_out) = codes "refused " ++ place_text feeder place ++ codes " " ++ refused_code left_out.code ++ 10 ∷ []
line_of_notice registers (Broke feeder broken line) = broken_line feeder (Some broken)
line_of_notice registers (Ended feeder elements) = codes "end " ++ decimal feeder ++ codes " " ++ decimal elements ++ 10 ∷ []

-- the record of a notice after these earlier ones, in JSON: it says what is in doubt by what they say was left out
abbrev pub record_of_notice : List Register → List Notice → Notice → List ℕ
record_of_notice registers earlier notice = json_text (notice_symbols registers notice (left_out_before earlier notice) (rested_before earlier notice)) ++ 10 ∷ []

-- the text of a notice after these earlier ones, with its line end: a line for people, or a record
unfoldable pub text_of_notice : NoticeForm → List Register → List Notice → Notice → List ℕ
text_of_notice forms.Line registers earlier notice = line_of_notice registers notice
text_of_notice forms.Record registers earlier notice = record_of_notice registers earlier notice

-- the texts of notices after these earlier ones
abbrev pub texts_after : NoticeForm → List Register → List Notice → List Notice → List ℕ
texts_after form registers earlier [] = []
texts_after form registers earlier (notice ∷ notices) = text_of_notice form registers earlier notice ++ texts_after form registers (earlier ++ notice ∷ []) notices

-- the texts of notices, one after the other
abbrev pub text_of_notices : NoticeForm → List Register → List Notice → List ℕ
text_of_notices form registers notices = texts_after form registers [] notices
