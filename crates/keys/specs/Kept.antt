-- How the program keeps what is named; for private clauses alone.
use Rattle.std.specs.Prelude.{◌||◌, ℕ, ℤ, Bool, false, List, [], ◌∷◌, Option, Vec, map, is_none, is_some, if◌then◌else◌}
use Rattle.std.specs.Str.{bytes_eq}
use Rattle.std.specs.declared.alloc.Global.{Global}
use Rattle.keys.specs.Named.{NamedModel, NamesModel}

-- an entry that is kept, as a named register
abbrev pub kept_name : Vec ℕ Global × Option ℤ → NamedModel
kept_name entry = record { name = entry.0.items; writer = entry.1 }

-- what the entries and the first writer are seen as
abbrev pub names_with : List (Vec ℕ Global × Option ℤ) → Option ℤ → NamesModel
names_with entries writer = record { registers = map kept_name entries; first_writer = writer }

-- one register alone, of this name, which this process writes first
abbrev pub only_name : List ℕ → Option ℤ → List NamedModel
only_name name writer = record { name = name; writer = writer } ∷ []

-- whether a mention by this name and this optional writer says nothing new: the first of these registers with the name has
-- a writer, or no writer is given
abbrev pub says_nothing_new : List NamedModel → List ℕ → Option ℤ → Bool
says_nothing_new [] name writer = false
says_nothing_new (first ∷ registers) name writer = if bytes_eq name first.name then is_some first.writer || is_none writer else says_nothing_new registers name writer
