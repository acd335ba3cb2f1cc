-- What a map has under the keys that are read.
use Rattle.std.specs.Prelude.{◌≡◌, ◌≢◌, ℕ, List, [], ◌∷◌, Option, Some, None, codes}
use Rattle.edn_reader.specs.declared.element.ElementKind.TheVariants.{Vector}
use Rattle.edn_reader.specs.Grammar.{ElementModel}
use Rattle.edn_reader.specs.Pairs.{values_of, HasMembers}
use Rattle.edn_reader.specs.Given.{Given, Missing, One, Many, given}
use Rattle.jepsen_form.specs.declared.item.MomentField.{MomentField}
use Rattle.jepsen_form.specs.declared.item.MomentField.TheVariants.{Index, Time}

-- the keyword of the field that is chosen for moments: `:index` or `:time`
abbrev pub moment_key : MomentField → List ℕ
moment_key Index = codes ":index"
moment_key Time = codes ":time"

-- what a map has under each key of events, edits and questions: no value, one, or more (this project's profile)
pub record Fields : Type 0 where
  pub process : Given ElementModel
  pub stage : Given ElementModel
  pub action : Given ElementModel
  pub value : Given ElementModel
  pub moment : Given ElementModel
  pub edit : Given ElementModel
  pub of : Given ElementModel
  pub begin : Given ElementModel
  pub end : Given ElementModel
  pub ask : Given ElementModel
  pub register : Given ElementModel
  pub claimed : Given ElementModel

-- the fields of a map of these pairs, by their keywords
abbrev pub fields_of : MomentField → List (ElementModel × ElementModel) → Fields
fields_of chosen pairs = record {
  process = given (values_of (codes ":process") pairs);
  stage = given (values_of (codes ":type") pairs);
  action = given (values_of (codes ":f") pairs);
  value = given (values_of (codes ":value") pairs);
  moment = given (values_of (moment_key chosen) pairs);
  edit = given (values_of (codes ":edit") pairs);
  of = given (values_of (codes ":of") pairs);
  begin = given (values_of (codes ":begin") pairs);
  end = given (values_of (codes ":end") pairs);
  ask = given (values_of (codes ":ask") pairs);
  register = given (values_of (codes ":register") pairs);
  claimed = given (values_of (codes ":kind") pairs);
}

-- what an event says under `:value`: nothing, a value of the tower's only register, a register's name and its value,
-- or more than one thing
pub data UnderValue : Type 0 where
  NoValue : UnderValue
  AValue : (value : ElementModel) → UnderValue
  NamedValue : (name value : ElementModel) → UnderValue
  ManyValues : UnderValue

-- the two elements of a list of exactly two, or none
abbrev pub two_of : List ElementModel → Option (ElementModel × ElementModel)
two_of [] = None
two_of (only ∷ []) = None
two_of (first ∷ second ∷ []) = Some (first, second)
two_of (first ∷ second ∷ third ∷ members) = None

-- what a vector says under `:value`: a name and a value where it has exactly two elements, else it is a value itself
abbrev pub by_two : ElementModel → Option (ElementModel × ElementModel) → UnderValue
by_two vector None = AValue vector
by_two vector (Some two) = NamedValue two.0 two.1

-- what the field under `:value` says, its tags left out: the elements of a vector decide (`by_two`), and any other
-- element is a value itself
pub data IsUnderValue : Given ElementModel → UnderValue → Type 0 where
  missing : IsUnderValue Missing NoValue
  plain : {piece : ElementModel} → piece.core.kind ≢ Vector → IsUnderValue (One piece) (AValue piece)
  vector : {piece : ElementModel} {said : UnderValue} (members : List ElementModel) → HasMembers piece members → by_two piece (two_of members) ≡ said
      → IsUnderValue (One piece) said
  repeated : IsUnderValue Many ManyValues
