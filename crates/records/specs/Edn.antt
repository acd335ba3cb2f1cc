-- A record in EDN.
use Rattle.std.specs.Prelude.{ℕ, Bool, true, false, List, [], ◌∷◌, ◌++◌, ◌&&◌, ◌||◌, ◌==◌, map, flat_map, codes, encode_utf8_all, if◌then◌else◌}
use Rattle.bstr.specs.Utf8.{lossy_chars}
use Rattle.phrases.specs.Names.{place_text, printed_char}
use Rattle.records.specs.Symbol.{Symbol, begin_record, end_record, begin_list, end_list, key, word, text, place, number, flag, nothing}

-- a character as it is in a string of EDN: a quote and a backslash after a backslash
abbrev pub edn_char : ℕ → List ℕ
edn_char c = if (c == 34) || (c == 92) then 92 ∷ c ∷ [] else c ∷ []

-- a name or a lent text as a string of EDN, as it is printed
abbrev pub string_text : List ℕ → List ℕ
string_text bytes = codes "\"" ++ encode_utf8_all (flat_map edn_char (map printed_char (lossy_chars bytes))) ++ codes "\""

-- a token of a record in EDN; a key has a blank after it
abbrev pub symbol_text : Symbol → List ℕ
symbol_text begin_record = codes "{"
symbol_text end_record = codes "}"
symbol_text begin_list = codes "["
symbol_text end_list = codes "]"
symbol_text (key name) = codes ":" ++ name ++ codes " "
symbol_text (word name) = codes ":" ++ name
symbol_text (text bytes) = string_text bytes
symbol_text (place feeder event) = codes "\"" ++ place_text feeder event ++ codes "\""
symbol_text (number digits) = digits
symbol_text (flag true) = codes "true"
symbol_text (flag false) = codes "false"
symbol_text nothing = codes "nil"

-- a value or a field may begin with the token
abbrev pub begins : Symbol → Bool
begins end_record = false
begins end_list = false
begins symbol = true

-- a value may end with the token
abbrev pub ends : Symbol → Bool
ends begin_record = false
ends begin_list = false
ends (key name) = false
ends symbol = true

-- what is before a token: a blank between a value that has ended and what begins then
abbrev pub blank_before : Bool → Symbol → List ℕ
blank_before ended symbol = if ended && begins symbol then codes " " else []

-- the tokens in EDN, after a value has ended or not
unfoldable pub edn_from : Bool → List Symbol → List ℕ
edn_from ended [] = []
edn_from ended (symbol ∷ symbols) = blank_before ended symbol ++ symbol_text symbol ++ edn_from (ends symbol) symbols

-- a record in EDN
abbrev pub edn_text : List Symbol → List ℕ
edn_text symbols = edn_from false symbols
