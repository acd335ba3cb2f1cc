-- What the moments of a picture begin with alike, and their labels leave out.
use Rattle.std.specs.Prelude.{◌≡◌, ◌<◌, ◌+◌, ◌-◌, ◌==◌, ◌&&◌, ◌++◌, ℕ, nat_le, min, List, [], ◌∷◌, length, take, if◌then◌else◌}

-- how many digits there are with which two texts begin alike
abbrev pub equal_digits : List ℕ → List ℕ → ℕ
equal_digits [] others = 0
equal_digits (digit ∷ digits) [] = 0
equal_digits (digit ∷ digits) (other ∷ others) = if digit == other then equal_digits digits others + 1 else 0

-- the same of two texts of one length; 0 where one is longer
abbrev pub common_digits : List ℕ → List ℕ → ℕ
common_digits one other = if length one == length other then equal_digits one other else 0

-- how many of these digits all others begin with; 0 where one is of another length
abbrev pub common_to_all : List ℕ → List (List ℕ) → ℕ
common_to_all digits [] = length digits
common_to_all digits (other ∷ others) = min (common_digits digits other) (common_to_all digits others)

-- how many digits are left out of moments that have so many, and so many in common: none unless a moment has 8 at least,
-- and 4 at least are common; and never the last
abbrev pub cut_of : ℕ → ℕ → ℕ
cut_of digits common = if nat_le 8 digits && nat_le 4 common then min common (digits - 1) else 0

-- the front of moments, as the first digits of one of them
abbrev pub front_among : List ℕ → List (List ℕ) → List ℕ
front_among digits moments = take (cut_of (length digits) (common_to_all digits moments)) digits

-- the front of moments as they are printed: what all begin with, where that is worth it; else empty
abbrev pub front_of : List (List ℕ) → List ℕ
front_of [] = []
front_of (moment ∷ moments) = front_among moment (moment ∷ moments)

-- a moment begins with these digits, and has one more at least
abbrev pub GoesOnAfter : List ℕ → List ℕ → Type 0
GoesOnAfter front moment = (rest : List ℕ) × (0 < length rest) × (moment ≡ front ++ rest)

-- what is said of a front, between an opening and a closing; nothing of an empty one
abbrev pub front_line : List ℕ → List ℕ → List ℕ → List ℕ
front_line opening [] closing = []
front_line opening (digit ∷ digits) closing = opening ++ ((digit ∷ digits) ++ closing)
