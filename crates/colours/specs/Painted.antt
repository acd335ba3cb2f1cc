-- What a painted text is: a text with colours put in, and nothing else.
use Rattle.std.specs.Prelude.{◌≢◌, ℕ, List, [], ◌∷◌, ◌++◌, All, codes}
use Rattle.colours.specs.declared.escapes.TextColour.{TextColour}
use Rattle.colours.specs.declared.escapes.TextColour.TheVariants.{Red, Yellow, Green, Blue, Bold, Dim}

-- the escape with which a colour begins
abbrev pub escape : TextColour → List ℕ
escape Red = 27 ∷ codes "[1;31m"
escape Yellow = 27 ∷ codes "[1;33m"
escape Green = 27 ∷ codes "[1;32m"
escape Blue = 27 ∷ codes "[1;34m"
escape Bold = 27 ∷ codes "[1m"
escape Dim = 27 ∷ codes "[2m"

-- the escape with which each colour ends
abbrev pub reset : List ℕ
reset = 27 ∷ codes "[0m"

-- no byte is a line end
abbrev pub IsInOneLine : List ℕ → Type 0
IsInOneLine = All (λ byte. byte ≢ 10)

-- a text, and what is shown of it: nothing of nothing; after what is shown so far, more bytes as they are, or a part of
-- a line between the escape of a colour and the one that ends it
pub data IsPainted : List ℕ → List ℕ → Type 0 where
  nothing : IsPainted [] []
  plain : {text painted : List ℕ} → IsPainted text painted → (bytes : List ℕ) → IsPainted (text ++ bytes) (painted ++ bytes)
  coloured : {text painted : List ℕ} → IsPainted text painted → (colour : TextColour) (bytes : List ℕ) → IsInOneLine bytes
      → IsPainted (text ++ bytes) (painted ++ (escape colour ++ (bytes ++ reset)))

-- where these bytes were added to what is shown, it is what is shown of the text so far, with more bytes of the text
abbrev pub Adds : List ℕ → List ℕ → List ℕ → Type 0
Adds bytes old new = (text : List ℕ) → IsPainted text old → IsPainted (text ++ bytes) new
