-- What is printed of the traces: answers and refusals, and where a trace broke.
use Rattle.std.specs.Prelude.{ℕ, ◌+◌, List, [], ◌∷◌, ◌++◌, flat_map, Option, Some, None, codes}
use Rattle.std.specs.Fmt.{decimal}
use Rattle.tower_file.specs.Contents.{Register as Said}
use Rattle.logs.specs.Code.{break_code_of, refused_code}
use Rattle.logs.specs.declared.log.Broken.{Broken}
use Rattle.logs.specs.declared.log.Line.{Line}
use Rattle.logs.specs.declared.log.Log.{Log}
use Rattle.logs.specs.declared.log.What.{What}
use Rattle.logs.specs.declared.log.What.TheVariants.{Refused, Answered}
use Rattle.phrases.specs.Names.{printed, verdict_word, place_text, register_name}

-- the line of a refusal or an answer: the place of its element, and the code, or the register with its verdict
abbrev pub what_line : List Said → ℕ → ℕ → What → List ℕ
what_line registers feeder event (Refused left_out) =
    codes "refused " ++ place_text feeder event ++ codes " " ++ refused_code left_out.code ++ 10 ∷ []
what_line registers feeder event (Answered register answer) =
    codes "answer " ++ place_text feeder event ++ codes " " ++ printed (register_name registers register) ++ codes " " ++ verdict_word answer.holds ++ codes " " ++ decimal answer.operations ++ 10 ∷ []

-- the report's line for a log line of a trace
abbrev pub note_line : List Said → ℕ → Line → List ℕ
note_line registers feeder line = what_line registers feeder line.event line.what

-- the line that says by which code and at which byte a trace broke; empty where it did not break
abbrev pub broken_line : ℕ → Option Broken → List ℕ
broken_line feeder None = []
broken_line feeder (Some broken) =
    codes "broken " ++ decimal feeder ++ codes " " ++ break_code_of broken.code ++ codes " at " ++ decimal broken.place ++ 10 ∷ []

-- the lines of a trace: its refusals and answers in order, and where it broke
abbrev pub log_text : List Said → ℕ → Log → List ℕ
log_text registers feeder log = flat_map (note_line registers feeder) log.lines.items ++ broken_line feeder log.broken

-- the lines of several traces, of which the first has this number
abbrev pub logs_text : List Said → ℕ → List Log → List ℕ
logs_text registers feeder [] = []
logs_text registers feeder (log ∷ logs) = log_text registers feeder log ++ logs_text registers (feeder + 1) logs
