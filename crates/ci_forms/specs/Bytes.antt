-- The bytes of names within commands and XML.
use Rattle.std.specs.Prelude.{◌==◌, ◌||◌, ◌&&◌, ℕ, Bool, true, not, List, [], ◌∷◌, codes, nat_eq, nat_lt, take, false, length, if◌then◌else◌}
use Rattle.std.specs.Str.{bytes_eq}

-- a byte that ends neither a property nor a line
abbrev pub is_property_byte : ℕ → Bool
is_property_byte b = not (b == 10 || b == 13 || b == 44 || b == 58)

-- a byte that no XML refuses within a text, that ends no line there, and that begins and ends no markup and no attribute
abbrev pub is_text_byte : ℕ → Bool
is_text_byte b = not (nat_lt b 32 || b == 34 || b == 60 || b == 62)

-- these bytes begin with the rest of an entity, after its ampersand
abbrev pub begins_entity : List ℕ → Bool
begins_entity bytes = bytes_eq (take 4 bytes) (codes "amp;") || bytes_eq (take 3 bytes) (codes "lt;") || bytes_eq (take 3 bytes) (codes "gt;") || bytes_eq (take 5 bytes) (codes "quot;")

-- each ampersand begins an entity
abbrev pub has_whole_entities : List ℕ → Bool
has_whole_entities [] = true
has_whole_entities (b ∷ bytes) = (not (b == 38) || begins_entity bytes) && has_whole_entities bytes

-- a text is one line: its last byte is a line end, and no other is
abbrev pub is_line : List ℕ → Bool
is_line [] = false
is_line (b ∷ bytes) = if b == 10 then nat_eq (length bytes) 0 else is_line bytes
