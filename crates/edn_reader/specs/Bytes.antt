-- The classes of bytes, as docs/FORMATS.md lists them (this project's profile of EDN).
use Rattle.std.specs.Prelude.{◌≡◌, ℕ, suc, not, nat_le, ◌==◌, ◌&&◌, ◌||◌, if◌then◌else◌, Bool, true, false, List, [], ◌∷◌}
use Rattle.edn_reader.specs.declared.bytes.ByteClass.{ByteClass}
use Rattle.edn_reader.specs.declared.bytes.ByteClass.TheVariants.{White, Plain, Hash, Backslash, Semicolon, Quote, Opens, Closes}
use Rattle.edn_reader.specs.declared.bytes.Bracket.TheVariants.{Round, Square, Curly}

-- the class of a byte: bytes 9 to 13, the space and the comma are white; a byte without a sign of its own is plain
unfoldable pub class_of : ℕ → ByteClass
class_of b =
    if nat_le 9 b && nat_le b 13 || b == 32 || b == 44 then White
    else if b == 35 then Hash
    else if b == 92 then Backslash
    else if b == 59 then Semicolon
    else if b == 34 then Quote
    else if b == 40 then Opens Round
    else if b == 91 then Opens Square
    else if b == 123 then Opens Curly
    else if b == 41 then Closes Round
    else if b == 93 then Closes Square
    else if b == 125 then Closes Curly
    else Plain

-- whether bytes of this class may be in a run: all may but the delimiters (white bytes, brackets, `"` and `;`)
abbrev pub is_run_class : ByteClass → Bool
is_run_class Plain = true
is_run_class Hash = true
is_run_class Backslash = true
is_run_class White = false
is_run_class Semicolon = false
is_run_class Quote = false
is_run_class (Opens bracket) = false
is_run_class (Closes bracket) = false

-- whether a class is Plain
abbrev pub is_plain_class : ByteClass → Bool
is_plain_class Plain = true
is_plain_class Hash = false
is_plain_class Backslash = false
is_plain_class White = false
is_plain_class Semicolon = false
is_plain_class Quote = false
is_plain_class (Opens bracket) = false
is_plain_class (Closes bracket) = false

-- whether a class is White
abbrev pub is_white_class : ByteClass → Bool
is_white_class White = true
is_white_class Plain = false
is_white_class Hash = false
is_white_class Backslash = false
is_white_class Semicolon = false
is_white_class Quote = false
is_white_class (Opens bracket) = false
is_white_class (Closes bracket) = false

-- whether a byte may be in a run: it is no delimiter (no white byte, no bracket, neither `"` nor `;`)
abbrev pub is_run : ℕ → Bool
is_run b = is_run_class (class_of b)

-- whether a byte is plain: a run byte other than # and \, as the first byte of a word or a number is
abbrev pub is_plain : ℕ → Bool
is_plain b = is_plain_class (class_of b)

-- whether a byte is white: 9 to 13, the space or the comma
abbrev pub is_white : ℕ → Bool
is_white b = is_white_class (class_of b)

-- whether a byte goes on with a comment: it is no line end (byte 10)
abbrev pub is_in_comment : ℕ → Bool
is_in_comment b = not (b == 10)

-- no byte that passes the test comes next: the bytes are empty, or the first of them fails it
abbrev pub Ends : (ℕ → Bool) → List ℕ → Type 0
Ends test [] = Unit {0}
Ends test (b ∷ bytes) = test b ≡ false

-- the length of the longest prefix of the bytes in which every byte passes the test
unfoldable pub stretch : (ℕ → Bool) → List ℕ → ℕ
stretch test [] = 0
stretch test (b ∷ bytes) = if test b then suc (stretch test bytes) else 0
