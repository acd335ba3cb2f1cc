-- What the program holds of a register's keys, of a vector and of a text. Only private clauses speak of it.
use Rattle.std.specs.Prelude.{◌≡◌, ◌≢◌, ℕ, List, [], ◌∷◌, Option, Some, None, Result, Ok, Err, Vec}
use Rattle.std.specs.Option.{option_map}
use Rattle.std.specs.declared.alloc.Global.{Global}
use Rattle.edn_reader.specs.declared.element.Element.{Element}
use Rattle.edn_reader.specs.declared.view.MapView.{MapView}
use Rattle.edn_reader.specs.declared.view.VectorView.{VectorView}
use Rattle.edn_reader.specs.Grammar.{ElementModel}
use Rattle.edn_reader.specs.Pairs.{HasMembers}
use Rattle.edn_reader.specs.Fault.{FaultOf}
use Rattle.edn_reader.specs.Given.{seen}
use Rattle.edn_reader.specs.Lent.{piece_of, MembersLeft, PairsLeft}
use Rattle.intervals.specs.declared.operation.Value.{Value}
use Rattle.intervals.specs.Terms.{writers_of}
use Rattle.tower_file.specs.declared.said.Fields.{Fields}
use Rattle.tower_file.specs.declared.said.RegisterFields.{RegisterFields as Found}
use Rattle.tower_file.specs.declared.fault.TowerFault.{TowerFault}
use Rattle.tower_file.specs.declared.fault.TowerFault.TheVariants.{Edn, Shape, NameTaken, WriterCount, UnknownPart, EmptyDomain, InitialOutOfDomain, TooMany, Memory, UnknownInitial}
use Rattle.tower_file.specs.Form.{RegisterForm, IsGiven, IsSequence, AreVectorElements, Each}
use Rattle.tower_file.specs.Reading.{RegisterFields}
use Rattle.tower_file.specs.Tower.{NestsDeeply}
use Rattle.tower_file.specs.Located.{ByteSpan, byte_span_of, pairs_under}

-- what the program found under each key of a register is what the register has there
pub record AreFieldsOf (found : Fields) (form : RegisterForm) : Type 0 where
  pub name : form.name ≡ seen found.name
  pub kind : form.kind ≡ seen found.kind
  pub writers : IsGiven IsSequence (seen found.writers) form.writers
  pub initial : form.initial ≡ seen found.initial
  pub domain : IsGiven AreVectorElements (seen found.domain) form.domain
  pub parts : IsGiven AreVectorElements (seen found.parts) form.parts
  pub fixed : form.fixed ≡ seen found.fixed

-- these elements are left in a view of a vector; no elements where there is no view
abbrev pub NamesLeft : Option VectorView → List ElementModel → Type 0
NamesLeft None pieces = pieces ≡ []
NamesLeft (Some view) pieces = MembersLeft view pieces

-- the list of values of an optional domain
abbrev pub domain_items : Option (Vec Value Global) → Option (List Value)
domain_items domain = option_map (λ values. values.items) domain

-- the program holds what a register says by itself, field by field
pub record IsSaid (found : Found) (said : RegisterFields) : Type 0 where
  pub name : said.name ≡ found.name.now
  pub kind : said.kind ≡ found.kind
  pub writers : said.writers ≡ writers_of found.writers
  pub initial : said.initial ≡ found.initial
  pub domain : said.domain ≡ domain_items found.domain
  pub parts : NamesLeft found.parts said.parts
  pub fixed : said.fixed ≡ found.fixed

-- what a function answered is the answer that is due, with its result shown by a relation; nothing is said where memory
-- was refused
abbrev pub ShowsOrMemory : {X Y : Type 0} → (X → Y → Type 0) → Result X TowerFault → Result Y TowerFault → Type 0
ShowsOrMemory {X} {Y} Shows (Ok x) wanted = (y : Y) × (wanted ≡ Ok y) × Shows x y
ShowsOrMemory Shows (Err fault) wanted = fault ≢ Memory → wanted ≡ Err fault

-- the forms are read from the elements that are left in a view of a vector, in order
abbrev pub FormsLeft : {Form : Type 0} → (ElementModel → Form → Type 0) → VectorView → List Form → Type 0
FormsLeft IsRead view forms = (members : List ElementModel) × MembersLeft view members × Each IsRead members forms

-- how reading the text alone may fail: by its fault as EDN, or out of memory where it nests deeply (`NestsDeeply`)
abbrev pub IsTextFault : List ℕ → TowerFault → Type 0
IsTextFault bytes (Edn fault) = FaultOf bytes fault
IsTextFault bytes (Shape field) = ⊥
IsTextFault bytes NameTaken = ⊥
IsTextFault bytes WriterCount = ⊥
IsTextFault bytes UnknownPart = ⊥
IsTextFault bytes EmptyDomain = ⊥
IsTextFault bytes InitialOutOfDomain = ⊥
IsTextFault bytes TooMany = ⊥
IsTextFault bytes Memory = NestsDeeply bytes
IsTextFault bytes UnknownInitial = ⊥

-- the span is that of an element of which `IsIt` holds
abbrev pub IsSpanned : (ElementModel → Type 0) → Option ByteSpan → Type 0
IsSpanned IsIt span = (wrong : ElementModel) × IsIt wrong × (span ≡ Some (byte_span_of wrong))

-- the next of these pairs under a key, and a view that has left the pairs after it; none where no pair is under the key
abbrev pub NextUnder : List ℕ → Option (Element × Element) → MapView → List (ElementModel × ElementModel) → Type 0
NextUnder key None view pairs = pairs_under key pairs ≡ []
NextUnder key (Some pair) view pairs =
    (left : List (ElementModel × ElementModel)) × PairsLeft view left × (pairs_under key pairs ≡ (piece_of pair.0, piece_of pair.1) ∷ pairs_under key left)

-- there is just one pair, and what is left in the view are the elements of its value, a vector
abbrev pub IsVectorAt : List (ElementModel × ElementModel) → VectorView → Type 0
IsVectorAt pairs view = (pair : ElementModel × ElementModel) × (pairs ≡ pair ∷ []) × ((members : List ElementModel) → MembersLeft view members → HasMembers pair.1 members)
