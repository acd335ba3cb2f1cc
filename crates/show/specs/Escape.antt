-- A text within SVG and HTML.
use Rattle.std.specs.Prelude.{◌==◌, ◌&&◌, ◌||◌, ◌++◌, ℕ, List, codes, not, encode_utf8, flat_map, nat_lt, if◌then◌else◌}
use Rattle.bstr.specs.Utf8.{lossy_chars}

-- a character that XML allows: one below U+0020 other than a line end becomes a blank, U+FFFE and U+FFFF become U+FFFD
abbrev pub allowed : ℕ → ℕ
allowed c = if nat_lt c 32 && not (c == 10) then 32 else (if c == 65534 || c == 65535 then 65533 else c)

-- a character as it is written in SVG and HTML: one that would be markup becomes an entity
abbrev pub escaped_char : ℕ → List ℕ
escaped_char c =
    if c == 38 then codes "&amp;"
    else (if c == 60 then codes "&lt;"
    else (if c == 62 then codes "&gt;"
    else (if c == 34 then codes "&quot;" else encode_utf8 (allowed c))))

-- a text as it is written in SVG and HTML, so that it reads as itself; bytes that are no UTF-8 become U+FFFD
abbrev pub escaped : List ℕ → List ℕ
escaped text = flat_map escaped_char (lossy_chars text)

-- words between an opening and a closing markup, written so that they read as themselves
abbrev pub element_text : List ℕ → List ℕ → List ℕ → List ℕ
element_text opening words closing = opening ++ (escaped words ++ closing)
