-- What a source has given of what its reader had. Only private clauses speak of it.
use Rattle.std.specs.Prelude.{◌≡◌, ◌<◌, ℕ, List, ◌++◌, length, Option, Some, None, Bool, true, false}

-- what a reader had is the bytes that were given and then what it has left; or, past the byte limit, they are a prefix
-- of it and not all; nothing is said where what it had is not known
abbrev pub AreBytesOf : Option (List ℕ) → List ℕ → Option (List ℕ) → Bool → Type 0
AreBytesOf None bytes left past = Unit {0}
AreBytesOf (Some all) bytes left false = (rest : List ℕ) × (left ≡ Some rest) × (all ≡ bytes ++ rest)
AreBytesOf (Some all) bytes left true = (rest : List ℕ) × (all ≡ bytes ++ rest) × (0 < length rest)
