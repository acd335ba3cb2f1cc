-- Where the elements and the bytes of a text are.
use Rattle.std.specs.Prelude.{ℕ, ◌+◌, List, length, min}
use Rattle.edn_reader.specs.Grammar.{ElementModel}
use Rattle.places.specs.declared.location.Location.{Location}
use Rattle.places.specs.LineColumn.{place_of_byte}

-- the spot of an element: its bytes, and the line and the column of its first byte
abbrev pub element_spot : List ℕ → ElementModel → Location
element_spot text piece = record { start = piece.start; end = piece.start + length piece.text; place = place_of_byte text piece.start }

-- the spot of the byte of this number, from 0; an empty spot at the end of the text where there is no such byte
abbrev pub spot_of_byte : List ℕ → ℕ → Location
spot_of_byte text at = record { start = min at (length text); end = min (min at (length text) + 1) (length text); place = place_of_byte text at }
