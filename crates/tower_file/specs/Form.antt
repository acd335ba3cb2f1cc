-- A tower file as it is written (docs/FORMATS.md): what is under each key that is read, level by level.
use Rattle.std.specs.Prelude.{◌≡◌, ◌≢◌, ℕ, List, [], ◌∷◌, Option, Some, None, codes}
use Rattle.edn_reader.specs.declared.element.ElementKind.TheVariants.{Vector, Map}
use Rattle.edn_reader.specs.Grammar.{ElementModel}
use Rattle.edn_reader.specs.Text.{IsText}
use Rattle.edn_reader.specs.Pairs.{values_of, HasPairs, HasMembers}
use Rattle.edn_reader.specs.Given.{Given, Missing, One, Many, given}

-- what is under a key of a map with these pairs: nothing, one element, or more than one
abbrev pub under : List ℕ → List (ElementModel × ElementModel) → Given ElementModel
under key pairs = given (values_of key pairs)

-- both are missing, both are more than one thing, or both are one thing, the second read from the first
abbrev pub IsGiven : {X Y : Type 0} → (X → Y → Type 0) → Given X → Given Y → Type 0
IsGiven IsRead Missing Missing = Unit {0}
IsGiven IsRead Missing (One y) = ⊥
IsGiven IsRead Missing Many = ⊥
IsGiven IsRead (One x) Missing = ⊥
IsGiven IsRead (One x) (One y) = IsRead x y
IsGiven IsRead (One x) Many = ⊥
IsGiven IsRead Many Missing = ⊥
IsGiven IsRead Many (One y) = ⊥
IsGiven IsRead Many Many = Unit {0}

-- the elements of a vector, after tags or not; none where the element is no vector
abbrev pub AreVectorElements : ElementModel → Option (List ElementModel) → Type 0
AreVectorElements piece None = piece.core.kind ≢ Vector
AreVectorElements piece (Some members) = HasMembers piece members

-- the forms are read from the elements, one from each, in order
abbrev pub Each : {Form : Type 0} → (ElementModel → Form → Type 0) → List ElementModel → List Form → Type 0
Each IsRead [] [] = Unit {0}
Each IsRead [] (form ∷ forms) = ⊥
Each IsRead (piece ∷ pieces) [] = ⊥
Each IsRead (piece ∷ pieces) (form ∷ forms) = IsRead piece form × Each IsRead pieces forms

-- the forms that are read from a vector's elements, in order; none where the element is no vector
abbrev pub IsVectorOf : {Form : Type 0} → (ElementModel → Form → Type 0) → ElementModel → Option (List Form) → Type 0
IsVectorOf IsRead piece None = piece.core.kind ≢ Vector
IsVectorOf IsRead piece (Some forms) = (members : List ElementModel) × HasMembers piece members × Each IsRead members forms

-- the form that is read from a map's pairs; none where the element is no map
abbrev pub IsMapOf : {Form : Type 0} → (List (ElementModel × ElementModel) → Form → Type 0) → ElementModel → Option Form → Type 0
IsMapOf IsRead piece None = piece.core.kind ≢ Map
IsMapOf IsRead piece (Some form) = (pairs : List (ElementModel × ElementModel)) × HasPairs piece pairs × IsRead pairs form

-- an element, with its own elements where it is a vector
pub record Sequence : Type 0 where
  pub element : ElementModel
  pub members : Option (List ElementModel)

-- the sequence is this element, with its own elements where it is a vector
abbrev pub IsSequence : ElementModel → Sequence → Type 0
IsSequence piece sequence = (sequence.element ≡ piece) × AreVectorElements piece sequence.members

-- a register as it is written: what is under each of its keys
pub record RegisterForm : Type 0 where
  pub name : Given ElementModel
  pub kind : Given ElementModel
  pub writers : Given Sequence
  pub initial : Given ElementModel
  pub domain : Given (Option (List ElementModel))
  pub parts : Given (Option (List ElementModel))
  pub fixed : Given ElementModel

-- a map with these pairs has this under the keys of a register: `:name`, `:kind`, `:writers`, `:initial`, `:domain`,
-- `:of` and `:fixed`
pub record AreRegisterFields (pairs : List (ElementModel × ElementModel)) (form : RegisterForm) : Type 0 where
  pub name : form.name ≡ under (codes ":name") pairs
  pub kind : form.kind ≡ under (codes ":kind") pairs
  pub writers : IsGiven IsSequence (under (codes ":writers") pairs) form.writers
  pub initial : form.initial ≡ under (codes ":initial") pairs
  pub domain : IsGiven AreVectorElements (under (codes ":domain") pairs) form.domain
  pub parts : IsGiven AreVectorElements (under (codes ":of") pairs) form.parts
  pub fixed : form.fixed ≡ under (codes ":fixed") pairs

-- the register that is written in an element which is a map; none for another element
abbrev pub IsRegister : ElementModel → Option RegisterForm → Type 0
IsRegister piece form = IsMapOf AreRegisterFields piece form

-- a level as it is written: its name, and the vector of its registers
pub record LevelForm : Type 0 where
  pub name : Given ElementModel
  pub registers : Given (Option (List (Option RegisterForm)))

-- a map with these pairs has this under the keys of a level: `:name` and `:registers`
pub record AreLevelFields (pairs : List (ElementModel × ElementModel)) (form : LevelForm) : Type 0 where
  pub name : form.name ≡ under (codes ":name") pairs
  pub registers : IsGiven (IsVectorOf IsRegister) (under (codes ":registers") pairs) form.registers

-- the level that is written in an element which is a map; none for another element
abbrev pub IsLevel : ElementModel → Option LevelForm → Type 0
IsLevel piece form = IsMapOf AreLevelFields piece form

-- a file as it is written: the vector of its levels
pub record FileForm : Type 0 where
  pub levels : Given (Option (List (Option LevelForm)))

-- a map with these pairs has this under the key of a file: `:levels`
pub record AreFileFields (pairs : List (ElementModel × ElementModel)) (form : FileForm) : Type 0 where
  pub levels : IsGiven (IsVectorOf IsLevel) (under (codes ":levels") pairs) form.levels

-- the file that is written in a text of these elements, if that is one map; else none
abbrev pub IsFile : List ElementModel → Option FileForm → Type 0
IsFile [] form = form ≡ None
IsFile (piece ∷ []) form = IsMapOf AreFileFields piece form
IsFile (piece ∷ other ∷ pieces) form = form ≡ None

-- the file that is written in these bytes, which have no fault as EDN, if they are one map; else none
abbrev pub IsFileOf : List ℕ → Option FileForm → Type 0
IsFileOf bytes form = (pieces : List ElementModel) × IsText bytes pieces × IsFile pieces form
