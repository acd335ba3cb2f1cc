-- A text within XML.
use Rattle.std.specs.Prelude.{◌==◌, ◌||◌, ℕ, List, codes, encode_utf8, flat_map, nat_lt, if◌then◌else◌}
use Rattle.bstr.specs.Utf8.{lossy_chars}

-- a character that XML allows, on its line: one below U+0020 becomes a blank, U+FFFE and U+FFFF become U+FFFD
abbrev pub xml_allowed : ℕ → ℕ
xml_allowed c = if nat_lt c 32 then 32 else (if c == 65534 || c == 65535 then 65533 else c)

-- a character as it is written in XML: one that would be markup becomes an entity
abbrev pub xml_char : ℕ → List ℕ
xml_char c =
    if c == 38 then codes "&amp;"
    else (if c == 60 then codes "&lt;"
    else (if c == 62 then codes "&gt;"
    else (if c == 34 then codes "&quot;" else encode_utf8 (xml_allowed c))))

-- a text as it is written in XML, so that it reads as itself; bytes that are no UTF-8 become U+FFFD
unfoldable pub xml_text : List ℕ → List ℕ
xml_text text = flat_map xml_char (lossy_chars text)
