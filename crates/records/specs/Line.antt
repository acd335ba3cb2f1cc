-- The line of a record.
use Rattle.std.specs.Prelude.{ℕ, List, [], ◌∷◌, ◌++◌}
use Rattle.records.specs.Symbol.{Symbol}
use Rattle.records.specs.Json.{json_text}
use Rattle.records.specs.Edn.{edn_text}
use Rattle.records.specs.declared.line.Notation.{Notation}
use Rattle.records.specs.declared.line.Notation.TheVariants.{Json, Edn}

-- the text of a record in a notation
abbrev pub record_text : Notation → List Symbol → List ℕ
record_text Json symbols = json_text symbols
record_text Edn symbols = edn_text symbols

-- the line of a record
abbrev pub record_line : Notation → List Symbol → List ℕ
record_line notation symbols = record_text notation symbols ++ 10 ∷ []
