-- Lines and columns of the bytes of a text.
use Rattle.std.specs.Prelude.{ℕ, ◌+◌, ◌==◌, List, [], ◌∷◌, take, if◌then◌else◌}
use Rattle.places.specs.declared.line_column.LineColumn.{LineColumn}

-- the line and the column of the first byte of a text, each 1
abbrev pub first_place : LineColumn
first_place = record { line = 1; column = 1 }

-- the place after a byte at this place: the beginning of the next line after a byte 10, else the next column
abbrev pub place_after : LineColumn → ℕ → LineColumn
place_after place byte = if byte == 10 then record { line = place.line + 1; column = 1 } else record { line = place.line; column = place.column + 1 }

-- the place after these bytes, of which the first is at this place
abbrev pub place_after_all : LineColumn → List ℕ → LineColumn
place_after_all place [] = place
place_after_all place (byte ∷ bytes) = place_after_all (place_after place byte) bytes

-- the line and the column of the byte of this number, from 0: the place after all bytes before it
abbrev pub place_of_byte : List ℕ → ℕ → LineColumn
place_of_byte text at = place_after_all first_place (take at text)
