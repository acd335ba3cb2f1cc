-- Where the first fault of a tower file is: which bytes of the text are wrong.
use Rattle.std.specs.Prelude.{◌≡◌, ◌≢◌, ◌⊎◌, ℕ, ◌+◌, Bool, false, List, [], ◌∷◌, ◌++◌, filter, length, Option, Some, None, Result, Ok, Err, codes, is_err, if◌then◌else◌}
use Rattle.edn_reader.specs.declared.element.ElementKind.TheVariants.{Vector, Map}
use Rattle.edn_reader.specs.declared.fault.EdnFault.{EdnFault}
use Rattle.edn_reader.specs.declared.fault.EdnFault.TheVariants as edn
use Rattle.edn_reader.specs.Grammar.{ElementModel}
use Rattle.edn_reader.specs.Text.{IsText}
use Rattle.edn_reader.specs.Fault.{FaultOf}
use Rattle.edn_reader.specs.Pairs.{is_word, HasPairs, HasMembers}
use Rattle.edn_reader.specs.Given.{Given, Missing, One, Many}
use Rattle.tower_file.specs.declared.fault.TowerField.{TowerField}
use Rattle.tower_file.specs.declared.fault.TowerField.TheVariants as fields
use Rattle.tower_file.specs.declared.fault.TowerFault.{TowerFault}
use Rattle.tower_file.specs.declared.fault.TowerFault.TheVariants.{Edn, Shape, NameTaken, WriterCount, UnknownPart, EmptyDomain, InitialOutOfDomain, TooMany, Memory, UnknownInitial}
use Rattle.tower_file.specs.declared.located.LocatedFault.{LocatedFault}
use Rattle.tower_file.specs.Form.{under, Each, IsRegister, IsLevel}
use Rattle.tower_file.specs.Contents.{Register, TowerModel, empty}
use Rattle.tower_file.specs.Reading.{process_of, domain_value, part_of, through, with_register, level_after}

-- a span of bytes: the place of the first one, and the place after the last one
abbrev pub ByteSpan : Type 0
ByteSpan = ℕ × ℕ

-- the span of an element, its tags included
abbrev pub byte_span_of : ElementModel → ByteSpan
byte_span_of piece = (piece.start, piece.start + length piece.text)

-- the pairs of a map whose key is this keyword
abbrev pub pairs_under : List ℕ → List (ElementModel × ElementModel) → List (ElementModel × ElementModel)
pairs_under key pairs = filter (λ pair. is_word key pair.0) pairs

-- what a fault at a key of a map is about, by the pairs under it: the value where there is one, the second key where
-- there are more, and the map where there is none
abbrev pub at_key : ElementModel → List (ElementModel × ElementModel) → ElementModel
at_key whole [] = whole
at_key whole (pair ∷ []) = pair.1
at_key whole (first ∷ second ∷ pairs) = second.0

-- `wrong` is what a fault at a key of a map is about, by the pairs under it: in the value where there is one, the
-- second key where there are more, and the map where there is none
abbrev pub IsAtKey : (ElementModel → ElementModel → Type 0) → ElementModel → List (ElementModel × ElementModel) → ElementModel → Type 0
IsAtKey IsIn whole [] wrong = wrong ≡ whole
IsAtKey IsIn whole (pair ∷ []) wrong = IsIn pair.1 wrong
IsAtKey IsIn whole (first ∷ second ∷ pairs) wrong = wrong ≡ second.0

-- `wrong` is what a fault is about in an element that should be a map: at a key, which the pairs may decide; or the
-- element where it is no map
abbrev pub IsInMap : (List (ElementModel × ElementModel) → List ℕ) → (ElementModel → ElementModel → Type 0) → ElementModel → ElementModel → Type 0
IsInMap key IsIn piece wrong =
    ((piece.core.kind ≢ Map) × (wrong ≡ piece))
    ⊎ ((pairs : List (ElementModel × ElementModel)) × HasPairs piece pairs × IsAtKey IsIn piece (pairs_under (key pairs) pairs) wrong)

-- `wrong` is what a fault is about in an element that should be a vector: among its elements; or the element where it
-- is no vector
abbrev pub IsInVector : (List ElementModel → ElementModel → Type 0) → ElementModel → ElementModel → Type 0
IsInVector IsAmong piece wrong =
    ((piece.core.kind ≢ Vector) × (wrong ≡ piece)) ⊎ ((members : List ElementModel) × HasMembers piece members × IsAmong members wrong)

-- reading these elements in order, from the state `start` on, comes in the state `state` to the element `piece`, and
-- stops there with this fault
pub record StopsAt {Form State : Type 0} (IsRead : ElementModel → Form → Type 0) (step : State → Form → Result State TowerFault) (start : State) (members : List ElementModel)
    (fault : TowerFault) (state : State) (piece : ElementModel) : Type 0 where
  pub before : List ElementModel
  pub later : List ElementModel
  pub done : List Form
  pub form : Form
  pub order : members ≡ before ++ piece ∷ later
  pub are : Each IsRead before done
  pub read : through step start done ≡ Ok state
  pub is : IsRead piece form
  pub fails : step state form ≡ Err fault

-- the key of a register that a field has, or no bytes where a register has no such field
abbrev pub key_of_field : TowerField → List ℕ
key_of_field fields.File = codes ""
key_of_field fields.Levels = codes ""
key_of_field fields.Name = codes ":name"
key_of_field fields.Registers = codes ""
key_of_field fields.Kind = codes ":kind"
key_of_field fields.Writers = codes ":writers"
key_of_field fields.Initial = codes ":initial"
key_of_field fields.Domain = codes ":domain"
key_of_field fields.Parts = codes ":of"
key_of_field fields.Fixed = codes ":fixed"

-- the key of a register that a fault is about; empty, with nothing under it, where it is about the whole register
abbrev pub key_of : TowerFault → List ℕ
key_of (Edn fault) = codes ""
key_of (Shape field) = key_of_field field
key_of NameTaken = codes ":name"
key_of WriterCount = codes ":writers"
key_of UnknownPart = codes ":of"
key_of EmptyDomain = codes ":domain"
key_of InitialOutOfDomain = codes ":initial"
key_of TooMany = codes ""
key_of Memory = codes ""
key_of UnknownInitial = codes ":initial"

-- whether an element of the vector under this field has another form than it must: no process (`:writers`), no value
-- (`:domain`)
abbrev pub is_misformed : TowerField → ElementModel → Bool
is_misformed fields.File piece = false
is_misformed fields.Levels piece = false
is_misformed fields.Name piece = false
is_misformed fields.Registers piece = false
is_misformed fields.Kind piece = false
is_misformed fields.Writers piece = is_err (process_of piece)
is_misformed fields.Initial piece = false
is_misformed fields.Domain piece = is_err (domain_value piece)
is_misformed fields.Parts piece = false
is_misformed fields.Fixed piece = false

-- whether an element of a vector is what a fault is about: it has another form (V2), or names no register of an earlier
-- level (V5)
abbrev pub is_wrong : TowerFault → ℕ → List Register → ElementModel → Bool
is_wrong (Edn fault) first registers piece = false
is_wrong (Shape field) first registers piece = is_misformed field piece
is_wrong NameTaken first registers piece = false
is_wrong WriterCount first registers piece = false
is_wrong UnknownPart first registers piece = is_err (part_of first registers piece)
is_wrong EmptyDomain first registers piece = false
is_wrong InitialOutOfDomain first registers piece = false
is_wrong TooMany first registers piece = false
is_wrong Memory first registers piece = false
is_wrong UnknownInitial first registers piece = false

-- the first of these elements for which the test is true, or `whole` where there is none
abbrev pub first_wrong_element : (ElementModel → Bool) → ElementModel → List ElementModel → ElementModel
first_wrong_element test whole [] = whole
first_wrong_element test whole (piece ∷ pieces) = if test piece then piece else first_wrong_element test whole pieces

-- `wrong` is what a fault is about in the value of a key: the first element that is wrong, or the value where it has
-- none or is no vector
abbrev pub IsInValue : ℕ → List Register → TowerFault → ElementModel → ElementModel → Type 0
IsInValue first registers fault value wrong =
    IsInVector (λ members found. found ≡ first_wrong_element (is_wrong fault first registers) value members) value wrong

-- `wrong` is what of a register a fault is about, given the registers before it
abbrev pub IsInRegister : ℕ → List Register → TowerFault → ElementModel → ElementModel → Type 0
IsInRegister first registers fault piece wrong = IsInMap (λ pairs. key_of fault) (IsInValue first registers fault) piece wrong

-- `wrong` is what of a level's registers a fault is about: in the register at which reading stops with it
abbrev pub IsAmongRegisters : ℕ → ℕ → List Register → TowerFault → List ElementModel → ElementModel → Type 0
IsAmongRegisters level first registers fault members wrong =
    (before : List Register) × (piece : ElementModel) × StopsAt IsRegister (with_register level first) registers members fault before piece × IsInRegister first before fault piece wrong

-- the key of a level that is at fault, by what is under `:name`: that where it is not there once, else `:registers`
abbrev pub level_key_by : Given ElementModel → List ℕ
level_key_by Missing = codes ":name"
level_key_by (One name) = codes ":registers"
level_key_by Many = codes ":name"

-- the key of a level that is at fault, by its pairs: `:name` where that is not there once, else `:registers`
abbrev pub level_key : List (ElementModel × ElementModel) → List ℕ
level_key pairs = level_key_by (under (codes ":name") pairs)

-- `wrong` is what of a level a fault is about, given the tower of the levels before it
abbrev pub IsInLevel : TowerModel → TowerFault → ElementModel → ElementModel → Type 0
IsInLevel tower fault piece wrong =
    IsInMap level_key (IsInVector (IsAmongRegisters (length tower.levels) (length tower.registers) tower.registers fault)) piece wrong

-- `wrong` is what of a file's levels a fault is about: in the level at which reading stops with it
abbrev pub IsAmongLevels : TowerModel → TowerFault → List ElementModel → ElementModel → Type 0
IsAmongLevels start fault members wrong =
    (tower : TowerModel) × (piece : ElementModel) × StopsAt IsLevel level_after start members fault tower piece × IsInLevel tower fault piece wrong

-- `wrong` is what of the one element of a file a fault is about
abbrev pub IsInFile : TowerFault → ElementModel → ElementModel → Type 0
IsInFile fault piece wrong = IsInMap (λ pairs. codes ":levels") (IsInVector (IsAmongLevels empty fault)) piece wrong

-- the span of what a fault of these elements of a text is about: something in the one, or all bytes if it is not one
abbrev pub IsSpanIn : List ℕ → List ElementModel → TowerFault → ByteSpan → Type 0
IsSpanIn bytes [] fault span = span ≡ (0, length bytes)
IsSpanIn bytes (piece ∷ []) fault span = (wrong : ElementModel) × IsInFile fault piece wrong × (span ≡ byte_span_of wrong)
IsSpanIn bytes (piece ∷ other ∷ pieces) fault span = span ≡ (0, length bytes)

-- the place of a fault of the text as EDN
abbrev pub fault_place : EdnFault → ℕ
fault_place (edn.Truncated place) = place
fault_place (edn.StrayClose place) = place
fault_place (edn.WrongClose place) = place
fault_place (edn.TooDeep place) = place
fault_place (edn.OddMap place) = place
fault_place (edn.TagWithoutElement place) = place
fault_place (edn.Memory place) = place

-- the span of a fault of the text as EDN (V1): no bytes, at its place; none for any other fault
abbrev pub text_span : TowerFault → Option ByteSpan
text_span (Edn fault) = Some (fault_place fault, fault_place fault)
text_span (Shape field) = None
text_span NameTaken = None
text_span WriterCount = None
text_span UnknownPart = None
text_span EmptyDomain = None
text_span InitialOutOfDomain = None
text_span TooMany = None
text_span Memory = None
text_span UnknownInitial = None

-- where a fault of a tower file is: at its place where it is one of the text as EDN, else at what it is about
abbrev pub HasFaultAt : List ℕ → TowerFault → ByteSpan → Type 0
HasFaultAt bytes fault span =
    ((of_text : EdnFault) × (fault ≡ Edn of_text) × FaultOf bytes of_text × (text_span fault ≡ Some span))
    ⊎ ((pieces : List ElementModel) × IsText bytes pieces × IsSpanIn bytes pieces fault span)

-- the fault that memory was refused (V9), which has no span
abbrev pub wanting : LocatedFault
wanting = record { fault = Memory; span = None }

-- an answer without the span of its fault
abbrev pub fault_alone : {X : Type 0} → Result X LocatedFault → Result X TowerFault
fault_alone (Ok x) = Ok x
fault_alone (Err located) = Err located.fault

-- the fault that memory was refused (V9) has no span; nothing is said of another fault
abbrev pub NoneForMemory : LocatedFault → Type 0
NoneForMemory located = located.fault ≡ Memory → located.span ≡ None
