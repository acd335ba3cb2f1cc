-- Which elements log lines refuse, as marks; for private clauses alone.
use Rattle.std.specs.Prelude.{◌≡◌, ℕ, Bool, false, List, get_or}
use Rattle.std.specs.List.{list_any}
use Rattle.logs.specs.declared.log.Line.{Line}
use Rattle.lint.specs.LeftWith.{refuses}

-- each element is marked exactly where one of the lines refuses it
abbrev pub AreMarked : List Bool → List Line → Type 0
AreMarked marks lines = (number : ℕ) → get_or marks number false ≡ list_any (refuses number) lines
