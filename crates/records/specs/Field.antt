-- The beginning of a record, and fields that several records have.
use Rattle.std.specs.Prelude.{ℕ, Bool, List, [], ◌∷◌, codes}
use Rattle.std.specs.Fmt.{decimal}
use Rattle.records.specs.Symbol.{Symbol, begin_list, begin_record, end_list, end_record, flag, key, number, place, text, word}

-- the beginning of a record, with what it is of
unfoldable pub type_symbols : List ℕ → List Symbol
type_symbols type = begin_record ∷ key (codes "t") ∷ word type ∷ []

-- a number under this name
unfoldable pub number_symbols : List ℕ → ℕ → List Symbol
number_symbols name n = key name ∷ number (decimal n) ∷ []

-- a name or a text under this name
unfoldable pub text_field : List ℕ → List ℕ → List Symbol
text_field name bytes = key name ∷ text bytes ∷ []

-- a word under this name
unfoldable pub word_symbols : List ℕ → List ℕ → List Symbol
word_symbols name value = key name ∷ word value ∷ []

-- whether something is so, under this name
unfoldable pub flag_symbols : List ℕ → Bool → List Symbol
flag_symbols name b = key name ∷ flag b ∷ []

-- the place of an element
unfoldable pub place_symbols : ℕ → ℕ → List Symbol
place_symbols feeder event = key (codes "id") ∷ place feeder event ∷ []

-- the beginning of a list under this name
unfoldable pub list_symbols : List ℕ → List Symbol
list_symbols name = key name ∷ begin_list ∷ []

-- the end of a list, and of its record
unfoldable pub end_symbols : List Symbol
end_symbols = end_list ∷ end_record ∷ []
