-- How grave findings are, their codes, and the status with which a run ends.
use Rattle.std.specs.Prelude.{ℕ, Bool, true, false, List, codes, ◌||◌, if◌then◌else◌}
use Rattle.std.specs.Borrow.{Bor}
use Rattle.std.specs.List.{list_any}
use Rattle.std.specs.Str.{bytes_eq}
use Rattle.logs.specs.Code.{break_code_of, refused_code as code_of_refused}
use Rattle.tower_file.specs.Tower.{tower_fault_code as code_of_fault}
use Rattle.lint.specs.declared.finding.Amiss.{Amiss}
use Rattle.lint.specs.declared.finding.Amiss.TheVariants.{Refused, Broken, Tower, Noted}
use Rattle.lint.specs.declared.finding.Problem.{Problem}
use Rattle.lint.specs.declared.finding.Grade.{Grade}
use Rattle.lint.specs.declared.finding.Grade.TheVariants as grades
use Rattle.lint.specs.declared.finding.Note.{Note}
use Rattle.lint.specs.declared.finding.Note.TheVariants.{Skipped, NoOperation, Unused, NoValue, NearField, Unread, Unanswered, SilentWriter, SameMoment, OutOfProportion, Rests, RestsOnEdit, RestsOnAnswer, RestsOnUnread}
use Rattle.lint.specs.declared.finding.TraceFindings.{TraceFindings}

-- the grade of what is amiss: an error for a break and a fault of the tower file, a warning for a refusal, else a note
abbrev pub grade_of : Amiss → Grade
grade_of (Refused event code) = grades.Warning
grade_of (Broken code) = grades.Error
grade_of (Tower fault) = grades.Error
grade_of (Noted event note) = grades.Note

-- the code of a note
abbrev pub code_of_note : Note → List ℕ
code_of_note Skipped = codes "L1"
code_of_note NoOperation = codes "L2"
code_of_note Unused = codes "L2"
code_of_note NoValue = codes "L3"
code_of_note (NearField field) = codes "L3"
code_of_note (Unread meant) = codes "L4"
code_of_note Unanswered = codes "L5"
code_of_note (SilentWriter process) = codes "L6"
code_of_note (SameMoment event ties) = codes "L7"
code_of_note (OutOfProportion many) = codes "L7"
code_of_note (Rests operation) = codes "L8"
code_of_note (RestsOnEdit operation) = codes "L8"
code_of_note (RestsOnAnswer operation) = codes "L8"
code_of_note (RestsOnUnread operation) = codes "L8"

-- the code of what is amiss, as users see it
abbrev pub finding_code : Amiss → List ℕ
finding_code (Refused event code) = code_of_refused code
finding_code (Broken code) = break_code_of code
finding_code (Tower fault) = code_of_fault fault
finding_code (Noted event note) = code_of_note note

-- the word of a grade
abbrev pub grade_word : Grade → List ℕ
grade_word grades.Error = codes "error"
grade_word grades.Warning = codes "warning"
grade_word grades.Note = codes "note"

-- two grades are equal
abbrev pub same_grade : Grade → Grade → Bool
same_grade grades.Error grades.Error = true
same_grade grades.Error grades.Warning = false
same_grade grades.Error grades.Note = false
same_grade grades.Warning grades.Error = false
same_grade grades.Warning grades.Warning = true
same_grade grades.Warning grades.Note = false
same_grade grades.Note grades.Error = false
same_grade grades.Note grades.Warning = false
same_grade grades.Note grades.Note = true

-- a finding is of this grade
abbrev pub is_of_grade : Grade → Problem → Bool
is_of_grade grade finding = same_grade (grade_of finding.what) grade

-- a finding of some trace is of this grade
abbrev pub has_grade : Grade → List TraceFindings → Bool
has_grade grade traces = list_any (λ trace. list_any (is_of_grade grade) trace.findings.items) traces

-- a note has this code
abbrev pub is_of_code : List ℕ → Problem → Bool
is_of_code code note = bytes_eq (finding_code note.what) code

-- a note of some trace has this code
abbrev pub has_note : List ℕ → List TraceFindings → Bool
has_note code traces = list_any (λ trace. list_any (is_of_code code) trace.notes.items) traces

-- a note of some trace has one of these codes
abbrev pub has_denied : List (Bor (List ℕ)) → List TraceFindings → Bool
has_denied denied traces = list_any (λ code. has_note code.now traces) denied

-- the status of `lint`: 2 with an error, else 3 with a warning or a note whose code is denied, else 0
abbrev pub lint_status : List (Bor (List ℕ)) → List TraceFindings → ℕ
lint_status denied traces = if has_grade grades.Error traces then 2 else if has_grade grades.Warning traces || has_denied denied traces then 3 else 0
