-- Texts, the prefixes of an input that end with an element, and what is open at a place.
use Rattle.std.specs.Prelude.{◌≡◌, ℕ, suc, ◌+◌, Bool, true, false, List, [], ◌∷◌, ◌++◌, length, drop}
use Rattle.edn_reader.specs.declared.nesting.Open.{Open}
use Rattle.edn_reader.specs.declared.token.Opener.{Opener}
use Rattle.edn_reader.specs.declared.token.Token.TheVariants.{Opens}
use Rattle.edn_reader.specs.Grammar.{ElementModel, IsToken, IsGap, IsElements, is_odd, waits}

-- up to a place, where the last of them ends, the input is gaps and these elements, with at most 64 things open at once
abbrev pub IsFront : List ℕ → List ElementModel → ℕ → Type 0
IsFront input pieces at = IsElements 64 0 input pieces at (drop at input)

-- the input is a text with these elements: only a gap is left after the last (EDN, at most 64 things open at once)
abbrev pub IsText : List ℕ → List ElementModel → Type 0
IsText input pieces = (at after : ℕ) × IsFront input pieces at × IsGap 64 at (drop at input) after []

-- the bytes are the beginning of some text: with some bytes after them they are one
abbrev pub IsViable : List ℕ → Type 0
IsViable bytes = (more : List ℕ) × (pieces : List ElementModel) × IsText (bytes ++ more) pieces

-- what was read after an opener up to a place: elements and a gap after a bracket; a gap after a tag or a discard,
-- which waits; the first number is how many more things may be open; the Bool is whether the number of elements is odd
pub data StandsIn : Opener → ℕ → ℕ → List ℕ → Bool → ℕ → List ℕ → Type 0 where
  within : {opener : Opener} {room place ends after : ℕ} {bytes beyond rest : List ℕ} {inside : List ElementModel} → waits opener ≡ false
      → IsElements room place bytes inside ends beyond → IsGap room ends beyond after rest
      → StandsIn opener room place bytes (is_odd inside) after rest
  waiting : {opener : Opener} {room place after : ℕ} {bytes rest : List ℕ} → waits opener ≡ true → IsGap room place bytes after rest
      → StandsIn opener room place bytes false after rest

-- what is open at a place of the input: these outermost elements have ended, and these brackets, tags and discards are
-- open, the innermost first, at most 64
pub data StandsOpen : List ℕ → List ElementModel → List Open → ℕ → List ℕ → Type 0 where
  outermost : {place after : ℕ} {input left rest : List ℕ} {pieces : List ElementModel} → IsElements 64 0 input pieces place left
      → IsGap 64 place left after rest → StandsOpen input pieces [] after rest
  opened : {room place inner after : ℕ} {input bytes left rest : List ℕ} {pieces : List ElementModel} {opens : List Open} {opener : Opener}
      {odd : Bool} → StandsOpen input pieces opens place bytes → IsToken (Opens opener) place bytes inner left
      → room + suc (length opens) ≡ 64 → StandsIn opener room inner left odd after rest
      → StandsOpen input pieces (record { place = place; opener = opener; odd = odd } ∷ opens) after rest
