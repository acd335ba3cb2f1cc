-- The codes and words that are explained, in the order in which they are listed, and the one that a word names.
use Rattle.std.specs.Prelude.{ℕ, Bool, List, [], ◌∷◌, ◌++◌, ◌≡◌, Option, Some, codes, filter, find, if◌then◌else◌, map, not, option_map}
use Rattle.std.specs.Option.{option_map_or, option_or}
use Rattle.std.specs.Str.{bytes_eq, str_eq_ignore_ascii_case, str_to_ascii_lowercase}
use Rattle.texts.specs.declared.entry.Explanation.{Explanation}

-- a code or a word of a report as it is printed, its name, and what the message of `lint` begins with, which is empty
-- where there is none
pub record NamedCode : Type 0 where
  pub code : List ℕ
  pub name : List ℕ
  pub message : List ℕ

-- a code with this name and this message
abbrev pub of_code : List ℕ → List ℕ → List ℕ → NamedCode
of_code code name message = record { code = code; name = name; message = message }

-- the codes alone
abbrev pub codes_in : List NamedCode → List (List ℕ)
codes_in named = map (λ one. one.code) named

-- the codes of a text and of its reading, each with its name and what the message of `lint` begins with
abbrev pub named_text_codes : List NamedCode
named_text_codes =
    of_code (codes "E1") (codes "Truncated") (codes "the text ends inside an element") ∷
    of_code (codes "E2") (codes "StrayClose") (codes "a closing bracket, and none is open") ∷
    of_code (codes "E3") (codes "WrongClose") (codes "a closing bracket that does not fit the open one") ∷
    of_code (codes "E4") (codes "TooDeep") (codes "more than 64 brackets, tags and discards are open") ∷
    of_code (codes "E5") (codes "OddMap") (codes "a map closes after an odd number of elements") ∷
    of_code (codes "E6") (codes "TagWithoutElement") (codes "a bracket closes, and a tag or discard in it has no element") ∷
    of_code (codes "E7") (codes "Memory") [] ∷
    of_code (codes "N1") (codes "ReadFailed") (codes "the trace could not be read to its end") ∷
    of_code (codes "N2") (codes "TooLong") (codes "the trace is longer than 1073741824 bytes") ∷ []

-- the codes of a text and of its reading
abbrev pub text_codes : List (List ℕ)
text_codes = codes_in named_text_codes

-- the codes of the form of an element, each with its name and what the message of `lint` begins with
abbrev pub named_form_codes : List NamedCode
named_form_codes =
    of_code (codes "F1") (codes "NotAMap") (codes "an element that is no map") ∷
    of_code (codes "F2") (codes "MissingField") (codes "a field is missing: ") ∷
    of_code (codes "F3") (codes "DuplicateField") (codes "a field stands twice: ") ∷
    of_code (codes "F4") (codes "BadType") (codes "the :type, :edit or :kind is none that is known") ∷
    of_code (codes "F5") (codes "UnsupportedF") (codes "the :f is neither :read nor :write") ∷
    of_code (codes "F6") (codes "BadValue") (codes "a value that is neither nil nor an integer that fits") ∷
    of_code (codes "F7") (codes "BadMoment") (codes "a moment that is no integer from 0") ∷
    of_code (codes "F8") (codes "NoRegister") (codes "the tower has no register of this name") ∷ []

-- the codes of the form of an element
abbrev pub form_codes : List (List ℕ)
form_codes = codes_in named_form_codes

-- the codes of the pairing of invocations and answers, each with its name and what the message of `lint` begins with
abbrev pub named_pair_codes : List NamedCode
named_pair_codes =
    of_code (codes "P1") (codes "ProcessBusy") (codes "an invocation of a process whose last one has no answer yet") ∷
    of_code (codes "P2") (codes "NoInvocation") (codes "an answer or an edit, and no invocation that it is of") ∷
    of_code (codes "P3") (codes "AnswerMismatch") (codes "an :ok that does not fit its invocation") ∷
    of_code (codes "P4") (codes "Memory") (codes "out of memory") ∷ []

-- the codes of the pairing of invocations and answers
abbrev pub pair_codes : List (List ℕ)
pair_codes = codes_in named_pair_codes

-- the codes of refusals by a register, each with its name and what the message of `lint` begins with
abbrev pub named_register_codes : List NamedCode
named_register_codes =
    of_code (codes "X1") (codes "UnknownOp") (codes "its operation does not stand") ∷
    of_code (codes "X2") (codes "OpTaken") (codes "its operation stands already") ∷
    of_code (codes "X3") (codes "EndNotAfterBegin") (codes "an end that is not after the beginning") ∷
    of_code (codes "X4") (codes "MomentTaken") (codes "a moment that another operation has: ") ∷
    of_code (codes "X5") (codes "MomentTooLarge") (codes "a moment past 4611686018427387903") ∷
    of_code (codes "X6") (codes "NotAWriter") (codes "a write by a process that is no writer of the register") ∷
    of_code (codes "X7") (codes "WritesOverlap") (codes "a write that overlaps the write ") ∷
    of_code (codes "X8") (codes "ValueTaken") (codes "a write of a value that is had by ") ∷
    of_code (codes "X9") (codes "OutOfDomain") (codes "a write of a value outside the domain") ∷
    of_code (codes "X10") (codes "ClaimFixed") (codes "a claim of a register whose kind is fixed") ∷
    of_code (codes "X11") (codes "ClaimWriters") (codes "a claim to be safe or regular, and not exactly one writer") ∷
    of_code (codes "X12") (codes "ClaimOverlap") (codes "a claim to be safe or regular, and writes overlap: ") ∷
    of_code (codes "X13") (codes "ClaimRepeats") (codes "a claim to be atomic, and a value is had twice: by ") ∷
    of_code (codes "X14") (codes "ClaimInitial") (codes "a claim to be safe or regular, and the initial value is unknown") ∷ []

-- the codes of refusals by a register
abbrev pub register_codes : List (List ℕ)
register_codes = codes_in named_register_codes

-- the codes of a tower file, each with its name and what the message of `lint` begins with
abbrev pub named_tower_codes : List NamedCode
named_tower_codes =
    of_code (codes "V1") (codes "Edn") (codes "the text breaks: ") ∷
    of_code (codes "V2") (codes "Shape") (codes "a part is missing, stands twice or has another form: ") ∷
    of_code (codes "V3") (codes "NameTaken") (codes "an earlier register has this name") ∷
    of_code (codes "V4") (codes "WriterCount") (codes "a safe or regular register has not exactly one writer") ∷
    of_code (codes "V5") (codes "UnknownPart") (codes "a part is no register of an earlier level") ∷
    of_code (codes "V6") (codes "EmptyDomain") (codes "a domain without a value") ∷
    of_code (codes "V7") (codes "InitialOutOfDomain") (codes "the initial value is not in the domain") ∷
    of_code (codes "V8") (codes "TooMany") (codes "65536 registers come before this one") ∷
    of_code (codes "V9") (codes "Memory") (codes "out of memory") ∷
    of_code (codes "V10") (codes "UnknownInitial") (codes "the initial value of a safe or regular register is unknown") ∷ []

-- the codes of a tower file
abbrev pub tower_codes : List (List ℕ)
tower_codes = codes_in named_tower_codes

-- the codes of faults of a shard, each with its name
abbrev pub named_shard_codes : List NamedCode
named_shard_codes =
    of_code (codes "S1") (codes "UnknownRegister") [] ∷
    of_code (codes "S2") (codes "Memory") [] ∷
    of_code (codes "S3") (codes "JournalBehind") [] ∷
    of_code (codes "S4") (codes "PassMissing") [] ∷
    of_code (codes "S5") (codes "Stranger") [] ∷
    of_code (codes "S6") (codes "ForeignPass") [] ∷ []

-- the codes of faults of a shard
abbrev pub shard_codes : List (List ℕ)
shard_codes = codes_in named_shard_codes

-- the codes of notes, each with its name
abbrev pub named_note_codes : List NamedCode
named_note_codes =
    of_code (codes "L1") (codes "SkippedClient") [] ∷
    of_code (codes "L2") (codes "NoOperation") [] ∷
    of_code (codes "L3") (codes "NoValue") [] ∷
    of_code (codes "L4") (codes "UnreadField") [] ∷
    of_code (codes "L5") (codes "Unanswered") [] ∷
    of_code (codes "L6") (codes "SilentWriter") [] ∷
    of_code (codes "L7") (codes "TiedMoments") [] ∷
    of_code (codes "L8") (codes "RestsOnARefusal") [] ∷ []

-- the codes of notes
abbrev pub note_codes : List (List ℕ)
note_codes = codes_in named_note_codes

-- the codes of hints, each with its name
abbrev pub named_hint_codes : List NamedCode
named_hint_codes =
    of_code (codes "H1") (codes "ByteOrderMark") [] ∷
    of_code (codes "H2") (codes "Compressed") [] ∷
    of_code (codes "H3") (codes "OuterBrackets") [] ∷
    of_code (codes "H4") (codes "Json") [] ∷
    of_code (codes "H6") (codes "SameBytes") [] ∷
    of_code (codes "H7") (codes "Exchanged") [] ∷ []

-- the codes of hints
abbrev pub hint_codes : List (List ℕ)
hint_codes = codes_in named_hint_codes

-- the words of a report that are explained, each with what it is
abbrev pub named_words : List NamedCode
named_words =
    of_code (codes "wrong") (codes "a fault") [] ∷
    of_code (codes "unwritten") (codes "a fault") [] ∷
    of_code (codes "early") (codes "a fault") [] ∷
    of_code (codes "conflict") (codes "a fault") [] ∷
    of_code (codes "zone") (codes "of a picture") [] ∷
    of_code (codes "culprit") (codes "a line") [] ∷
    of_code (codes "answer") (codes "a line") [] ∷
    of_code (codes "refused") (codes "a line") [] ∷
    of_code (codes "broken") (codes "a line") [] ∷
    of_code (codes "order") (codes "a line") [] ∷
    of_code (codes "status") (codes "of the program") [] ∷ []

-- the words of a report that are explained
abbrev pub report_words : List (List ℕ)
report_words = codes_in named_words

-- the codes of refused elements, of their form, of the pairing and of a register, each with its name
abbrev pub named_refusal_codes : List NamedCode
named_refusal_codes = named_form_codes ++ named_pair_codes ++ named_register_codes

-- the codes of refused elements: of their form, of the pairing and of a register
abbrev pub refusal_codes : List (List ℕ)
refusal_codes = form_codes ++ pair_codes ++ register_codes

-- all codes, each with its name
abbrev pub named_codes : List NamedCode
named_codes =
    named_text_codes ++ named_form_codes ++ named_pair_codes ++ named_register_codes ++ named_tower_codes
    ++ named_shard_codes ++ named_note_codes ++ named_hint_codes

-- all codes and words, each with its name
abbrev pub all_named : List NamedCode
all_named = named_codes ++ named_words

-- all codes and words
abbrev pub all_codes : List (List ℕ)
all_codes =
    text_codes ++ form_codes ++ pair_codes ++ register_codes ++ tower_codes ++ shard_codes ++ note_codes ++ hint_codes
    ++ report_words

-- the first of these codes that is this word, in capitals or not; or none
abbrev pub code_among : List (List ℕ) → List ℕ → Option (List ℕ)
code_among among word = find (λ code. str_eq_ignore_ascii_case code word) among

-- the first of these codes whose name is this word, in capitals or not; or none
abbrev pub code_by_name : List NamedCode → List ℕ → Option (List ℕ)
code_by_name among word = option_map (λ one. one.code) (find (λ one. str_eq_ignore_ascii_case one.name word) among)

-- the code, or the word of a report, that a word names, in capitals or not: the one that it is, else the first code
-- whose name it is; or none
abbrev pub code_of : List ℕ → Option (List ℕ)
code_of word = option_or (code_among all_codes word) (code_by_name named_codes word)

-- what the message of `lint` begins with for a code, in capitals or not; empty where it is none
abbrev pub message_of_code : List ℕ → List ℕ
message_of_code code = option_map_or (λ one. one.message) (find (λ one. str_eq_ignore_ascii_case one.code code) all_named) []

-- the codes of these entries, in order
abbrev pub codes_of : List Explanation → List (List ℕ)
codes_of entries = map (λ entry. entry.code.now) entries

-- the code of an entry, with its name and its message
abbrev pub code_in : Explanation → NamedCode
code_in entry = of_code entry.code.now entry.name.now entry.message.now

-- the codes of these entries, in order, each with its name and its message
abbrev pub named_codes_of : List Explanation → List NamedCode
named_codes_of entries = map code_in entries

-- what an entry is looked for by: its name, or its code
abbrev pub entry_key : Bool → Explanation → List ℕ
entry_key by_name entry = if by_name then entry.name.now else entry.code.now

-- the first of these entries whose name, or whose code, is this word, in capitals or not; or none
abbrev pub entry_among : Bool → List Explanation → List ℕ → Option Explanation
entry_among by_name entries word = find (λ entry. str_eq_ignore_ascii_case (entry_key by_name entry) word) entries

-- this code, as it is printed and in small letters, names itself
abbrev pub NamesItself : List ℕ → Type 0
NamesItself code = (code_of code ≡ Some code) × (code_of (str_to_ascii_lowercase code) ≡ Some code)

-- the name of this code, as it is printed and in small letters, names the code
abbrev pub IsFoundByName : NamedCode → Type 0
IsFoundByName one = (code_of one.name ≡ Some one.code) × (code_of (str_to_ascii_lowercase one.name) ≡ Some one.code)

-- the codes whose names no other code has: all but those of refused memory, which have one name
abbrev pub codes_of_own_name : List NamedCode
codes_of_own_name = filter (λ one. not (bytes_eq one.name (codes "Memory"))) named_codes
