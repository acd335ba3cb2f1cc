-- What the loop over the elements of a text has found between two of them.
use Rattle.std.proofs.Common.{◌≡◌, ℕ, List}
use Rattle.edn_reader.specs.declared.field.Field.{Field}
use Rattle.edn_reader.specs.Grammar.{ElementModel}
use Rattle.edn_reader.specs.Text.{IsFront}
use Rattle.edn_reader.specs.Given.{given, seen}

-- what was found says whether no element, one or more are before this place
pub record IsFoundUpTo (input : List ℕ) (at : ℕ) (found : Field) : Type 0 where
  pub pieces : List ElementModel
  pub front : IsFront input pieces at
  pub field : seen found ≡ given pieces
