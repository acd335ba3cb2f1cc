-- What a map has under a key: no value, one, or more.
use Rattle.std.specs.Prelude.{List, [], ◌∷◌}
use Rattle.edn_reader.specs.declared.field.Field.{Field}
use Rattle.edn_reader.specs.declared.field.Field.TheVariants.{Absent, Once, Twice}
use Rattle.edn_reader.specs.Grammar.{ElementModel}
use Rattle.edn_reader.specs.Lent.{piece_of}

-- nothing, one thing, or more than one
pub data Given (X : Type 0) : Type 0 where
  Missing : Given X
  One : (value : X) → Given X
  Many : Given X

-- the values under a key as a `Given`: nothing, the one value, or more than one
abbrev pub given : List ElementModel → Given ElementModel
given [] = Missing
given (value ∷ []) = One value
given (value ∷ other ∷ values) = Many

-- what the program found under a key, its `Field`, as a `Given`
abbrev pub seen : Field → Given ElementModel
seen Absent = Missing
seen (Once element) = One (piece_of element)
seen Twice = Many

-- what is under a key once one more value is
abbrev pub one_more : Given ElementModel → ElementModel → Given ElementModel
one_more Missing value = One value
one_more (One first) value = Many
one_more Many value = Many
