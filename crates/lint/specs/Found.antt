-- What is found in a trace by its log: the refusals by place, and where it broke.
use Rattle.std.specs.Prelude.{◌≡◌, ◌<◌, ℕ, List, [], ◌∷◌, ◌++◌, All, Option, Some, None, length, map}
use Rattle.std.specs.List.{flat_map, slice_index_or}
use Rattle.edn_reader.specs.Fault.{AreElementsBefore}
use Rattle.edn_reader.specs.Grammar.{ElementModel}
use Rattle.logs.specs.declared.log.Broken.{Broken}
use Rattle.logs.specs.declared.log.Line.{Line}
use Rattle.logs.specs.declared.log.Log.{Log}
use Rattle.logs.specs.declared.log.What.{What}
use Rattle.logs.specs.declared.log.What.TheVariants as whats
use Rattle.lint.specs.declared.finding.Amiss.TheVariants as amiss
use Rattle.lint.specs.declared.finding.Problem.{Problem}
use Rattle.lint.specs.declared.finding.TraceFindings.{TraceFindings}
use Rattle.lint.specs.LeftWith.{left_with_line}
use Rattle.places.specs.declared.location.Location.{Location}
use Rattle.places.specs.LineColumn.{first_place}
use Rattle.places.specs.Location.{element_spot, spot_of_byte}

-- the spot of the element of this number, which has to be there
abbrev pub spot_at : List Location → ℕ → Location
spot_at spots number = slice_index_or spots number (record { start = 0; end = 0; place = first_place })

-- what a log notes of the element of this number, as findings: a refusal is one, an answer is none
abbrev pub found_of_what : List Location → ℕ → What → List Problem
found_of_what spots event (whats.Refused left_out) = record { what = amiss.Refused event left_out.code; spot = spot_at spots event } ∷ []
found_of_what spots event (whats.Answered register answer) = []

-- a log line as findings: a refusal is one, an answer is none
abbrev pub found_of_line : List Location → Line → List Problem
found_of_line spots line = found_of_what spots line.event line.what

-- where a trace broke, as a finding; none where it did not break
abbrev pub found_of_break : List ℕ → Option Broken → List Problem
found_of_break text None = []
found_of_break text (Some broken) = record { what = amiss.Broken broken.code; spot = spot_of_byte text broken.place } ∷ []

-- each line of the log is of an element of the text, by its number, or of one before the text's fault
abbrev pub NamesElements : List ℕ → Log → Type 0
NamesElements text log = (pieces : List ElementModel) → AreElementsBefore text pieces → All (λ line. line.event < length pieces) log.lines.items

-- what is found in a trace by its log: the spots of its elements (those before its fault), a finding for each refusal
-- at the spot of its element, in order, and one where it broke, if it did; and for each refusal the invocation with
-- which its element was left out, if it was left out with one
pub record IsFoundIn (text : List ℕ) (log : Log) (found : TraceFindings) : Type 0 where
  pub pieces : List ElementModel
  pub are : AreElementsBefore text pieces
  pub spots : found.spots.items ≡ map (element_spot text) pieces
  pub named : All (λ line. line.event < length pieces) log.lines.items
  pub findings : found.findings.items ≡ flat_map (found_of_line found.spots.items) log.lines.items ++ found_of_break text log.broken
  pub left_with : found.left_with.items ≡ flat_map (left_with_line log.lines.items) log.lines.items

-- what is found in each of several traces, by their logs
abbrev pub AreFoundIn : List (List ℕ) → List Log → List TraceFindings → Type 0
AreFoundIn [] [] [] = Unit {0}
AreFoundIn (text ∷ texts) (log ∷ logs) (one ∷ found) = IsFoundIn text log one × AreFoundIn texts logs found
AreFoundIn texts logs found = ⊥
