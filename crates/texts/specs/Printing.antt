-- How the entry of a code is printed, and the list of all.
use Rattle.std.specs.Prelude.{◌≡◌, ℕ, ◌-◌, List, [], ◌∷◌, ◌++◌, codes, flat_map, length, replicate}
use Rattle.texts.specs.declared.entry.Explanation.{Explanation}
use Rattle.texts.specs.Codes.{codes_of}

-- a word, and blanks up to so many columns
abbrev pub column : ℕ → List ℕ → List ℕ
column columns word = word ++ replicate (columns - length word) 32

-- a line with the code and the name of an entry in columns, and a text
abbrev pub line_text : Explanation → List ℕ → List ℕ
line_text entry last = column 11 entry.code.now ++ column 19 entry.name.now ++ last ++ 10 ∷ []

-- a part of an entry after its head, on a line of its own; empty where the part is empty
abbrev pub part_text : List ℕ → List ℕ → List ℕ
part_text head [] = []
part_text head (byte ∷ bytes) = head ++ (byte ∷ bytes) ++ 10 ∷ []

-- all that is printed of an entry
abbrev pub entry_text : Explanation → List ℕ
entry_text entry =
    line_text entry entry.outcome.now
    ++ (10 ∷ []) ++ part_text [] entry.what.now ++ part_text [] entry.more.now
    ++ (10 ∷ []) ++ part_text (codes "Mostly:  ") entry.mostly.now
    ++ part_text (codes "Tower:   ") entry.tower.now
    ++ part_text (codes "Example: ") entry.example.now
    ++ part_text (codes "Mend:    ") entry.mend.now
    ++ part_text (codes "See:     ") entry.see.now

-- a line for each of these entries, in order: its code, its name and what it says
abbrev pub list_text : List Explanation → List ℕ
list_text entries = flat_map (λ entry. line_text entry entry.what.now) entries

-- a line for each of these codes, in order: that of an entry with this code
pub record AreLines (listed : List (List ℕ)) (lines : List ℕ) : Type 0 where
  pub entries : List Explanation
  pub are : codes_of entries ≡ listed
  pub is : lines ≡ list_text entries
