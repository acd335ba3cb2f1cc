-- Bytes as a string of JSON (RFC 8259).
use Rattle.std.specs.Prelude.{ℕ, ◌==◌, List, [], ◌∷◌, ◌++◌, nat_lt, if◌then◌else◌, encode_utf8_all}
use Rattle.std.specs.List.{flat_map}
use Rattle.bstr.specs.Utf8.{lossy_chars}

-- a character in a string of JSON: a quote (34) or a backslash (92) after a backslash, a control character as a blank
abbrev pub quoted_character : ℕ → List ℕ
quoted_character c = if c == 34 then 92 ∷ 34 ∷ [] else if c == 92 then 92 ∷ 92 ∷ [] else if nat_lt c 32 then 32 ∷ [] else c ∷ []

-- bytes as a string of JSON, between two quotes; bytes that are no UTF-8 become U+FFFD
abbrev pub quoted : List ℕ → List ℕ
quoted bytes = 34 ∷ (encode_utf8_all (flat_map quoted_character (lossy_chars bytes)) ++ 34 ∷ [])
