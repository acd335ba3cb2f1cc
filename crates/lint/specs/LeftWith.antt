-- Which refused elements were left out with the invocation of the operation that they answer or edit.
use Rattle.std.specs.Prelude.{ℕ, Bool, true, false, ◌&&◌, ◌==◌, if◌then◌else◌, List, [], ◌∷◌, Option, Some, None, option_and_then, option_map}
use Rattle.std.specs.List.{list_any}
use Rattle.intervals.specs.declared.refusal.Refusal.TheVariants as refusals
use Rattle.logs.specs.declared.log.Code.{Code}
use Rattle.logs.specs.declared.log.Code.TheVariants as codings
use Rattle.logs.specs.declared.log.LeftOut.{LeftOut}
use Rattle.logs.specs.declared.log.Line.{Line}
use Rattle.logs.specs.declared.log.What.{What}
use Rattle.logs.specs.declared.log.What.TheVariants as whats
use Rattle.report.specs.Refused.{is_refused_line}

-- an element is refused since no such operation stands (X1)
abbrev pub is_of_missing : Code → Bool
is_of_missing (codings.Register refusals.UnknownOp) = true
is_of_missing code = false

-- the operation that a refused element answers or edits, by the place of its invocation, where it is refused since that
-- operation does not stand
abbrev pub missing_of : LeftOut → Option ℕ
missing_of left_out = if is_of_missing left_out.code then option_map (λ operation. operation.event) left_out.about.operation else None

-- a log line is of a refusal of the element of this number
abbrev pub refuses : ℕ → Line → Bool
refuses number line = is_refused_line line && line.event == number

-- the number, where one of the lines refuses the element of it
abbrev pub if_refused : List Line → ℕ → Option ℕ
if_refused lines number = if list_any (refuses number) lines then Some number else None

-- the invocation with which an element was left out, by the lines of its trace: that of its operation, which does not
-- stand, and which was refused itself
abbrev pub left_with : List Line → LeftOut → Option ℕ
left_with lines left_out = option_and_then (if_refused lines) (missing_of left_out)

-- of what the log notes of an element, the invocation with which it was left out: one for a refusal, none for an answer
abbrev pub left_with_what : List Line → What → List (Option ℕ)
left_with_what lines (whats.Refused left_out) = left_with lines left_out ∷ []
left_with_what lines (whats.Answered register answer) = []

-- the same of a log line
abbrev pub left_with_line : List Line → Line → List (Option ℕ)
left_with_line lines line = left_with_what lines line.what
