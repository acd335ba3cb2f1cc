-- The token that bytes begin with, and its length. No public clause uses these words.
use Rattle.std.specs.Prelude.{ℕ, suc, ◌+◌, ◌==◌, if◌then◌else◌, List, [], ◌∷◌, Option, Some, None, length}
use Rattle.std.specs.Option.{option_map}
use Rattle.edn_reader.specs.declared.bytes.ByteClass.{ByteClass}
use Rattle.edn_reader.specs.declared.bytes.ByteClass.TheVariants.{White, Plain, Hash, Backslash, Semicolon, Quote, Opens, Closes}
use Rattle.edn_reader.specs.declared.bytes.Bracket.TheVariants.{Round, Square, Curly}
use Rattle.edn_reader.specs.declared.element.ElementKind.TheVariants.{Atom, Char, Text}
use Rattle.edn_reader.specs.declared.token.Token.{Token}
use Rattle.edn_reader.specs.declared.token.Token.TheVariants as tokens
use Rattle.edn_reader.specs.declared.token.Opener.TheVariants as openers
use Rattle.edn_reader.specs.declared.token.Found.{Found}
use Rattle.edn_reader.specs.Bytes.{class_of, is_run, is_in_comment, stretch}
use Rattle.edn_reader.specs.Grammar.{opener_of}

-- the token and its length, found at a place, as the program has it: the token and the place after it
abbrev pub found_at : ℕ → Token × ℕ → Found
found_at place token = record { token = token.0; end = place + token.1 }

-- how many bytes a Text has after its opening quote, with the closing one; none where it is not closed
unfoldable pub quoted_length : List ℕ → Option ℕ
quoted_length [] = None
quoted_length (b ∷ []) = if b == 34 then Some 1 else None
quoted_length (b ∷ c ∷ bytes) =
    if b == 34 then Some 1
    else if b == 92 then option_map (λ n. suc (suc n)) (quoted_length bytes)
    else option_map suc (quoted_length (c ∷ bytes))

-- the token of a Text that takes so many bytes and then this many of these; where that is none, it is unfinished and
-- takes all of them
abbrev pub text_token : ℕ → List ℕ → Option ℕ → Token × ℕ
text_token opening bytes (Some n) = (tokens.Leaf Text, opening + n)
text_token opening bytes None = (tokens.Unfinished, opening + length bytes)

-- the token of a Text that these bytes go on with, its length counted with so many bytes before them
abbrev pub quoted_token : ℕ → List ℕ → Token × ℕ
quoted_token opening bytes = text_token opening bytes (quoted_length bytes)

-- the token of a tag; the bytes are those after its #
abbrev pub tag_token : List ℕ → Token × ℕ
tag_token bytes = (tokens.Opens openers.Tag, 1 + stretch is_run bytes)

-- the token that begins with # and a byte of this class: the number is that byte, and the bytes are those after it
abbrev pub hash_token : ByteClass → ℕ → List ℕ → Token × ℕ
hash_token Hash c bytes = (tokens.Leaf Atom, 2 + stretch is_run bytes)
hash_token Quote c bytes = quoted_token 2 bytes
hash_token (Opens Curly) c bytes = (tokens.Opens openers.Set, 2)
hash_token (Opens Round) c bytes = tag_token (c ∷ bytes)
hash_token (Opens Square) c bytes = tag_token (c ∷ bytes)
hash_token (Closes bracket) c bytes = tag_token (c ∷ bytes)
hash_token White c bytes = tag_token (c ∷ bytes)
hash_token Semicolon c bytes = tag_token (c ∷ bytes)
hash_token Backslash c bytes = tag_token (c ∷ bytes)
hash_token Plain c bytes = if c == 95 then (tokens.Opens openers.Discard, 2) else tag_token (c ∷ bytes)

-- the token that begins with #; the bytes are those after it
unfoldable pub after_hash : List ℕ → Token × ℕ
after_hash [] = (tokens.Unfinished, 1)
after_hash (c ∷ bytes) = hash_token (class_of c) c bytes

-- the token that begins with a backslash; the bytes are those after it
unfoldable pub after_backslash : List ℕ → Token × ℕ
after_backslash [] = (tokens.Unfinished, 1)
after_backslash (c ∷ bytes) = (tokens.Leaf Char, 2 + stretch is_run bytes)

-- the token that begins with a byte of this class; the bytes are those after that byte
abbrev pub class_token : ByteClass → List ℕ → Token × ℕ
class_token White bytes = (tokens.Gap, 1)
class_token Plain bytes = (tokens.Leaf Atom, 1 + stretch is_run bytes)
class_token Hash bytes = after_hash bytes
class_token Backslash bytes = after_backslash bytes
class_token Semicolon bytes = (tokens.Gap, 1 + stretch is_in_comment bytes)
class_token Quote bytes = quoted_token 1 bytes
class_token (Opens bracket) bytes = (tokens.Opens (opener_of bracket), 1)
class_token (Closes bracket) bytes = (tokens.Closes bracket, 1)

-- the token that bytes begin with, and its length; unfinished where there is no byte
unfoldable pub lexed : List ℕ → Token × ℕ
lexed [] = (tokens.Unfinished, 0)
lexed (b ∷ bytes) = class_token (class_of b) bytes
