-- Integers: an optional sign, then 0 or digits that do not begin with 0, then an optional N (EDN).
use Rattle.std.specs.Prelude.{ℕ, zero, suc, ◌+◌, ◌-◌, ◌*◌, ◌^◌, nat_le, nat_lt, ◌==◌, ◌&&◌, if◌then◌else◌, Bool, true, false, not, List, [], ◌∷◌, ℤ, pos, negsuc, Option, Some, None}
use Rattle.std.specs.Option.{option_map}
use Rattle.edn_reader.specs.Grammar.{ElementModel, untagged}
use Rattle.edn_reader.specs.Pairs.{is_atom}

-- whether a byte is a decimal digit
abbrev pub is_digit : ℕ → Bool
is_digit b = nat_le 48 b && nat_le b 57

-- whether bytes may follow the digits of an integer: no byte, or one N (in EDN the sign of arbitrary precision)
abbrev pub is_suffix : List ℕ → Bool
is_suffix [] = true
is_suffix (b ∷ []) = b == 78
is_suffix (b ∷ c ∷ bytes) = false

-- the number whose decimal digits are those of a given one and then these, up to an optional N; none for other bytes
unfoldable pub digits_after : ℕ → List ℕ → Option ℕ
digits_after value [] = Some value
digits_after value (b ∷ bytes) =
    if is_digit b then digits_after (10 * value + (b - 48)) bytes
    else if is_suffix (b ∷ bytes) then Some value else None

-- the number that bytes spell without a sign, or none; a 0 that comes first is the only digit
unfoldable pub natural_of : List ℕ → Option ℕ
natural_of [] = None
natural_of (b ∷ bytes) =
    if b == 48 && not (is_suffix bytes) then None
    else if is_digit b then digits_after 0 (b ∷ bytes) else None

-- the negative of a number
abbrev pub minus : ℕ → ℤ
minus zero = pos 0
minus (suc n) = negsuc n

-- the integer, of any size, that bytes spell, or none
unfoldable pub integer_of : List ℕ → Option ℤ
integer_of [] = None
integer_of (b ∷ bytes) =
    if b == 45 then option_map minus (natural_of bytes)
    else if b == 43 then option_map pos (natural_of bytes)
    else option_map pos (natural_of (b ∷ bytes))

-- the integer, where it fits 64 bits with a sign, -2^63 to 2^63 - 1; else none (this project's profile)
abbrev pub fitting : Option ℤ → Option ℤ
fitting None = None
fitting (Some (pos n)) = if nat_lt n (2 ^ 63) then Some (pos n) else None
fitting (Some (negsuc n)) = if nat_lt n (2 ^ 63) then Some (negsuc n) else None

-- the integer of 64 bits that an element without its tags is: that of an Atom whose bytes spell it; or none
abbrev pub int_of : ElementModel → Option ℤ
int_of piece = if is_atom piece.core.kind then fitting (integer_of (untagged piece).text) else None
