-- The first fault of an input, the elements before it, and where memory may be refused.
use Rattle.std.specs.Prelude.{◌≡◌, ◌≢◌, ◌≤◌, ◌<◌, ℕ, suc, not, ◌&&◌, if◌then◌else◌, List, [], ◌∷◌, ◌++◌, length, take, Option, Some, None, IfSome}
use Rattle.edn_reader.specs.declared.bytes.ByteClass.TheVariants.{Hash, Quote, Opens, Closes}
use Rattle.edn_reader.specs.declared.bytes.Bracket.{Bracket}
use Rattle.edn_reader.specs.declared.fault.EdnFault.{EdnFault}
use Rattle.edn_reader.specs.declared.fault.EdnFault.TheVariants.{Truncated, StrayClose, WrongClose, TooDeep, OddMap, TagWithoutElement, Memory}
use Rattle.edn_reader.specs.declared.nesting.Open.{Open}
use Rattle.edn_reader.specs.declared.token.Opener.{Opener}
use Rattle.edn_reader.specs.declared.token.Token.TheVariants.{Opens as Opening}
use Rattle.edn_reader.specs.Bytes.{class_of}
use Rattle.edn_reader.specs.Grammar.{ElementModel, IsToken, fits, waits, is_paired}
use Rattle.edn_reader.specs.Text.{IsFront, IsText, IsViable, StandsOpen}

-- the innermost bracket that is open, tags and discards passed over; or none
abbrev pub innermost : List Open → Option Open
innermost [] = None
innermost (item ∷ opens) = if waits item.opener then innermost opens else Some item

-- a bracket, a tag or a discard begins at the first place, and the byte at the second one shows it (this project's
-- profile): of a bracket its own byte, of a # the byte after it, where that is neither # nor a quote
pub data BeginsOne : ℕ → List ℕ → ℕ → Type 0 where
  by_bracket : {b place : ℕ} {bytes : List ℕ} {bracket : Bracket} → class_of b ≡ Opens bracket → BeginsOne place (b ∷ bytes) place
  by_hash : {b c place : ℕ} {bytes : List ℕ} → class_of b ≡ Hash → class_of c ≢ Hash → class_of c ≢ Quote
      → BeginsOne place (b ∷ c ∷ bytes) (suc place)

-- the fault of a closing bracket, or none, by what opened last and the innermost bracket; in this order: none is open
-- (E2), it does not fit (E3), a tag or a discard in it waits (E6), it is a map with an odd number of elements (E5)
abbrev pub fault_in : ℕ → Bracket → Open → Option Open → Option EdnFault
fault_in place bracket last None = Some (StrayClose place)
fault_in place bracket last (Some inner) =
    if not (fits inner.opener bracket) then Some (WrongClose place)
    else if waits last.opener then Some (TagWithoutElement last.place)
    else if is_paired last.opener && last.odd then Some (OddMap place)
    else None

-- the fault of a closing bracket at a place where these are open, the innermost first; none where it closes well
abbrev pub fault_of_close : ℕ → Bracket → List Open → Option EdnFault
fault_of_close place bracket [] = Some (StrayClose place)
fault_of_close place bracket (last ∷ opens) = fault_in place bracket last (innermost (last ∷ opens))

-- where these are open at the first place, the byte at the second one is refused with this fault (this project's
-- profile): one more thing begins while 64 are open (E4), or else it is a closing bracket with a fault
pub data Refuses : List Open → ℕ → List ℕ → ℕ → EdnFault → Type 0 where
  too_deep : {opens : List Open} {place at : ℕ} {bytes : List ℕ} → length opens ≡ 64 → BeginsOne place bytes at
      → Refuses opens place bytes at (TooDeep place)
  closing : {opens : List Open} {b place : ℕ} {bytes : List ℕ} {bracket : Bracket} {fault : EdnFault} → class_of b ≡ Closes bracket
      → fault_of_close place bracket opens ≡ Some fault → Refuses opens place (b ∷ bytes) place fault

-- the first fault of an input: it ends before it is a text (E1); or its bytes before a place are the beginning of a
-- text, with the byte there they are not, and what is open says which fault that is
pub data FaultOf : List ℕ → EdnFault → Type 0 where
  truncated : (input : List ℕ) → IsViable input → ((pieces : List ElementModel) → IsText input pieces → ⊥)
      → FaultOf input (Truncated (length input))
  refused : (input : List ℕ) (at : ℕ) {place : ℕ} {bytes : List ℕ} {pieces : List ElementModel} {opens : List Open} {fault : EdnFault}
      → IsViable (take at input) → (IsViable (take (suc at) input) → ⊥)
      → StandsOpen input pieces opens place bytes → Refuses opens place bytes at fault → FaultOf input fault

-- the fault is E7: memory was refused, which is no fault of the input
abbrev pub IsMemory : EdnFault → Type 0
IsMemory (Memory place) = Unit {0}
IsMemory (Truncated place) = ⊥
IsMemory (StrayClose place) = ⊥
IsMemory (WrongClose place) = ⊥
IsMemory (TooDeep place) = ⊥
IsMemory (OddMap place) = ⊥
IsMemory (TagWithoutElement place) = ⊥

-- the place of E7, the byte at which memory was refused; none for a fault of the input
abbrev pub wanted_at : EdnFault → Option ℕ
wanted_at (Memory place) = Some place
wanted_at (Truncated place) = None
wanted_at (StrayClose place) = None
wanted_at (WrongClose place) = None
wanted_at (TooDeep place) = None
wanted_at (OddMap place) = None
wanted_at (TagWithoutElement place) = None

-- memory may be refused at a place: after these elements 16 to 63 things are open there, and one more bracket, tag or
-- discard begins (up to 16 are kept in place, more on the heap)
pub record CanWantMemory (input : List ℕ) (pieces : List ElementModel) (place : ℕ) : Type 0 where
  pub opens : List Open
  pub bytes : List ℕ
  pub opener : Opener
  pub inner : ℕ
  pub left : List ℕ
  pub present : StandsOpen input pieces opens place bytes
  pub begins : IsToken (Opening opener) place bytes inner left
  pub many : 16 ≤ length opens
  pub room : length opens < 64

-- if the fault is E7, its place is one where memory may be refused after these elements (`CanWantMemory`)
abbrev pub MemoryOnlyThere : List ℕ → List ElementModel → EdnFault → Type 0
MemoryOnlyThere input pieces fault = IfSome (wanted_at fault) (CanWantMemory input pieces)

-- the first list of elements is a prefix of the second
abbrev pub IsBeginning : List ElementModel → List ElementModel → Type 0
IsBeginning pieces all = (more : List ElementModel) × (all ≡ pieces ++ more)

-- the elements before the fault of an input: all that end in its longest prefix of gaps and elements (`IsFront`)
abbrev pub AreElementsBefore : List ℕ → List ElementModel → Type 0
AreElementsBefore input pieces =
    (at : ℕ) × IsFront input pieces at × ((others : List ElementModel) (there : ℕ) → IsFront input others there → IsBeginning others pieces)

-- these elements end within the bytes, whatever comes after the bytes known to come next; each one that ends in them
-- whatever comes next is among these (one that a next byte could prolong may be missing)
abbrev pub AreElementsSoFar : List ℕ → List ℕ → List ElementModel → Type 0
AreElementsSoFar bytes coming pieces =
    ((at : ℕ) × (at ≤ length bytes) × ((more : List ℕ) → IsFront (bytes ++ (coming ++ more)) pieces at))
    × ((others : List ElementModel) (there : ℕ) → ((more : List ℕ) → IsFront (bytes ++ more) others there) → IsBeginning others pieces)
