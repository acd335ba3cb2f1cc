-- What is kept of texts, while readers give them.
use Rattle.std.specs.Prelude.{◌≡◌, ℕ, Bool, true, List, [], ◌++◌, length, Option, Some, IfSome}
use Rattle.std.specs.List.{slice_get}
use Rattle.places.specs.declared.copying.Kept.{Kept}

-- the bytes are a prefix of a text; all of it, where it was found to end after them
pub record IsKeptOf (text bytes : List ℕ) (ended : Bool) : Type 0 where
  pub rest : List ℕ
  pub parts : text ≡ bytes ++ rest
  pub end : ended ≡ true → rest ≡ []

-- the bytes are kept of the text of this number (`IsKeptOf`); nothing is said where that is not known
abbrev pub IsCopyOf : List (Option (List ℕ)) → ℕ → List ℕ → Bool → Type 0
IsCopyOf texts number bytes ended = (text : List ℕ) → slice_get texts number ≡ Some (Some text) → IsKeptOf text bytes ended

-- what is kept of each text, by number
abbrev pub AreCopiesOf : List (Option (List ℕ)) → List Kept → Type 0
AreCopiesOf texts kept = (number : ℕ) (one : Kept) → slice_get kept number ≡ Some one → IsCopyOf texts number one.bytes.items one.ended

-- a reader gave so many bytes of a text, where their number is known, and has the rest of it left
pub record IsPartOf (text : List ℕ) (given : Option ℕ) (left : Option (List ℕ)) : Type 0 where
  pub before : List ℕ
  pub after : List ℕ
  pub parts : text ≡ before ++ after
  pub left_is : left ≡ Some after
  pub many : IfSome given (λ given. length before ≡ given)

-- a reader gives the text of this number (`IsPartOf`); nothing is said where that is not known
abbrev pub IsGiving : List (Option (List ℕ)) → ℕ → Option ℕ → Option (List ℕ) → Type 0
IsGiving texts number given left = (text : List ℕ) → slice_get texts number ≡ Some (Some text) → IsPartOf text given left

-- the next bytes of a text after so many others; its last ones, where it is found to end after them
pub record IsNextPart (text : List ℕ) (given : ℕ) (bytes : List ℕ) (ended : Bool) : Type 0 where
  pub before : List ℕ
  pub after : List ℕ
  pub parts : text ≡ before ++ (bytes ++ after)
  pub many : length before ≡ given
  pub end : ended ≡ true → after ≡ []

-- the next bytes of the text of this number (`IsNextPart`); nothing is said where that is not known
abbrev pub IsNextIn : List (Option (List ℕ)) → ℕ → ℕ → List ℕ → Bool → Type 0
IsNextIn texts number given bytes ended = (text : List ℕ) → slice_get texts number ≡ Some (Some text) → IsNextPart text given bytes ended
