-- Which symbols make a record.
use Rattle.std.specs.Prelude.{◌≡◌, ◌==◌, ◌&&◌, ◌||◌, ℕ, suc, nat_le, Bool, true, false, List, [], ◌∷◌, ◌++◌}
use Rattle.std.specs.List.{list_all}
use Rattle.records.specs.Symbol.{Symbol, begin_record, end_record, begin_list, end_list, key, number, word}

-- whether a byte may be in a word or a number: a letter, a digit, `-` or `_`
abbrev pub is_word_byte : ℕ → Bool
is_word_byte b = nat_le 97 b && nat_le b 122 || nat_le 65 b && nat_le b 90 || nat_le 48 b && nat_le b 57 || b == 45 || b == 95

-- whether bytes are a word or a number: letters, digits, `-` and `_`, one at least
abbrev pub is_record_word : List ℕ → Bool
is_record_word [] = false
is_record_word (b ∷ bytes) = is_word_byte b && list_all is_word_byte bytes

-- the symbol is a value by itself: no bracket and no key, and a word or a number only where its bytes are one
abbrev pub is_whole_value : Symbol → Bool
is_whole_value begin_record = false
is_whole_value end_record = false
is_whole_value begin_list = false
is_whole_value end_list = false
is_whole_value (key name) = false
is_whole_value (word name) = is_record_word name
is_whole_value (number digits) = is_record_word digits
is_whole_value symbol = true

mutual
  -- the symbols are one value: a symbol that is one by itself, a list, or a record; the number is how many brackets may be
  -- open in it at once
  pub data IsOneValue : ℕ → List Symbol → Type 0 where
    alone : {depth : ℕ} (symbol : Symbol) → is_whole_value symbol ≡ true → IsOneValue depth (symbol ∷ [])
    listed : {depth : ℕ} {values : List Symbol} → AreValues depth values → IsOneValue (suc depth) (begin_list ∷ (values ++ end_list ∷ []))
    nested : {depth : ℕ} {symbols : List Symbol} → IsRecord depth symbols → IsOneValue depth symbols

  -- the symbols are values, one after the other
  pub data AreValues : ℕ → List Symbol → Type 0 where
    no_value : {depth : ℕ} → AreValues depth []
    more_values : {depth : ℕ} {value values : List Symbol} → IsOneValue depth value → AreValues depth values → AreValues depth (value ++ values)

  -- the symbols are fields, one after the other: a key, which is a word, and its value
  pub data AreFields : ℕ → List Symbol → Type 0 where
    no_field : {depth : ℕ} → AreFields depth []
    more_fields : {depth : ℕ} (name : List ℕ) → is_record_word name ≡ true → {value fields : List Symbol} → IsOneValue depth value → AreFields depth fields
        → AreFields depth (key name ∷ (value ++ fields))

  -- the symbols are a record: fields between its brackets
  pub data IsRecord : ℕ → List Symbol → Type 0 where
    between : {depth : ℕ} {fields : List Symbol} → AreFields depth fields → IsRecord (suc depth) (begin_record ∷ (fields ++ end_record ∷ []))
