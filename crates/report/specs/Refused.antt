-- What a summary says of refusals: how many there are by code, the most frequent first, and where the first of each is.
use Rattle.std.specs.Prelude.{ℕ, ◌+◌, ◌≤◌, Bool, true, false, List, [], ◌∷◌, ◌++◌, filter, find, map, not, Option, Some, None, option_map, codes, nat_eq, nat_lt, if◌then◌else◌, count_by, sum_by}
use Rattle.std.specs.List.{AllByRecursion}
use Rattle.std.specs.Option.{option_map_or}
use Rattle.std.specs.Str.{bytes_eq}
use Rattle.std.specs.Fmt.{decimal}
use Rattle.logs.specs.Code.{refused_code}
use Rattle.logs.specs.declared.log.Line.{Line}
use Rattle.logs.specs.declared.log.Log.{Log}
use Rattle.logs.specs.declared.log.What.{What}
use Rattle.logs.specs.declared.log.What.TheVariants.{Refused, Answered}
use Rattle.report.specs.Doubted.{first_text}
use Rattle.texts.specs.Codes.{NamedCode, named_refusal_codes}

-- what is noted of an element is a refusal
abbrev pub is_refusal : What → Bool
is_refusal (Refused left_out) = true
is_refusal (Answered register answer) = false

-- a log line is of a refusal
abbrev pub is_refused_line : Line → Bool
is_refused_line line = is_refusal line.what

-- what is noted of an element is a refusal by this code
abbrev pub is_refusal_by : List ℕ → What → Bool
is_refusal_by code (Refused left_out) = bytes_eq (refused_code left_out.code) code
is_refusal_by code (Answered register answer) = false

-- a log line is of a refusal by this code
abbrev pub is_refused_by : List ℕ → Line → Bool
is_refused_by code line = is_refusal_by code line.what

-- how many elements of all traces were refused
abbrev pub refused : List Log → ℕ
refused logs = sum_by (λ log. count_by is_refused_line log.lines.items) logs

-- how many elements of all traces were refused by this code
abbrev pub refused_by : List ℕ → List Log → ℕ
refused_by code logs = sum_by (λ log. count_by (is_refused_by code) log.lines.items) logs

-- the place of the first element of a trace that was refused by this code, or none
abbrev pub first_in : List ℕ → Log → Option ℕ
first_in code log = option_map (λ line. line.event) (find (is_refused_by code) log.lines.items)

-- the first element that was refused by this code: its trace, of which the first has this number, and its place there
abbrev pub first_refused : List ℕ → ℕ → List Log → Option (ℕ × ℕ)
first_refused code feeder [] = None
first_refused code feeder (log ∷ logs) = option_map_or (λ event. Some (feeder, event)) (first_in code log) (first_refused code (feeder + 1) logs)

-- a code by which elements were refused, its name, and how many they are
pub record RefusedCode : Type 0 where
  pub code : List ℕ
  pub name : List ℕ
  pub many : ℕ

-- a code, with how many elements of all traces were refused by it
abbrev pub refused_code_in : List Log → NamedCode → RefusedCode
refused_code_in logs named = record { code = named.code; name = named.name; many = refused_by named.code logs }

-- some element was refused by the code
abbrev pub is_met : RefusedCode → Bool
is_met one = not (nat_eq one.many 0)

-- those of these codes by which elements were refused, in the same order
abbrev pub refused_codes : List Log → List NamedCode → List RefusedCode
refused_codes logs named = filter is_met (map (refused_code_in logs) named)

-- a code put before the first of these by which fewer elements were refused
abbrev pub put_by_frequency : RefusedCode → List RefusedCode → List RefusedCode
put_by_frequency one [] = one ∷ []
put_by_frequency one (other ∷ others) = if nat_lt other.many one.many then one ∷ other ∷ others else other ∷ put_by_frequency one others

-- codes put so, one after the other, among these
abbrev pub put_all_by_frequency : List RefusedCode → List RefusedCode → List RefusedCode
put_all_by_frequency [] sorted = sorted
put_all_by_frequency (one ∷ ones) sorted = put_all_by_frequency ones (put_by_frequency one sorted)

-- these codes, the most frequent first; those that are as frequent in the order that they had
abbrev pub by_frequency : List RefusedCode → List RefusedCode
by_frequency listed = put_all_by_frequency listed []

-- no code is more frequent than one before it
abbrev pub IsByFrequency : List RefusedCode → Type 0
IsByFrequency [] = Unit {0}
IsByFrequency (one ∷ others) = AllByRecursion (λ other. other.many ≤ one.many) others × IsByFrequency others

-- so many elements were refused by the code
abbrev pub is_as_frequent : ℕ → RefusedCode → Bool
is_as_frequent many one = nat_eq one.many many

-- texts in a row: the first after this text, and each other one after a comma
abbrev pub in_a_row : List ℕ → List (List ℕ) → List ℕ
in_a_row before [] = []
in_a_row before (text ∷ texts) = before ++ text ++ in_a_row (codes ", ") texts

-- what a summary says of a code: how many were refused by it, and the first of them
abbrev pub code_text : List Log → RefusedCode → List ℕ
code_text logs one = one.code ++ codes " " ++ one.name ++ codes " " ++ decimal one.many ++ first_text (first_refused one.code 0 logs)

-- what a summary says of some codes, the first after this text
abbrev pub codes_text : List Log → List ℕ → List RefusedCode → List ℕ
codes_text logs before listed = in_a_row before (map (code_text logs) listed)

-- the line of the refusals; empty where nothing was refused
abbrev pub refused_text : List Log → List ℕ
refused_text logs =
    if nat_eq (refused logs) 0 then []
    else codes "refused " ++ decimal (refused logs) ++ codes_text logs (codes ": ") (by_frequency (refused_codes logs named_refusal_codes)) ++ 10 ∷ []
