-- The model of a splitter, and what it says of the inputs that go on from the bytes that it has taken.
use Rattle.std.specs.Prelude.{◌≡◌, ◌≢◌, ◌≤◌, ◌<◌, ◌+◌, ◌-◌, ℕ, Bool, true, false, List, [], ◌∷◌, ◌++◌, length, take, drop, Option, Some, None, Result, Ok, Err, MatchOption}
use Rattle.edn_reader.specs.declared.fault.EdnFault.{EdnFault}
use Rattle.edn_reader.specs.declared.nesting.Open.{Open}
use Rattle.edn_reader.specs.declared.splitter.Taken.{Taken}
use Rattle.edn_reader.specs.declared.step.Span.{Span}
use Rattle.edn_reader.specs.declared.token.Opener.{Opener}
use Rattle.edn_reader.specs.declared.token.Token.TheVariants.{Opens}
use Rattle.edn_reader.specs.declared.tokens.Begun.{Begun}
use Rattle.edn_reader.specs.Grammar.{ElementModel}
use Rattle.edn_reader.specs.Text.{IsFront, IsText}
use Rattle.edn_reader.specs.Resuming.{last}
use Rattle.edn_reader.specs.Fault.{FaultOf, wanted_at, CanWantMemory, AreElementsBefore}
use Rattle.edn_reader.specs.Within.{StandsWithin, kept}

-- a splitter: how many bytes it has taken, what has begun among them and has not ended, what is open before that, the
-- fault that was met, or none, and the outermost element that ended last
pub record SplitterModel : Type 0 where
  pub taken : ℕ
  pub begun : Begun
  pub opens : List Open
  pub fault : Option EdnFault
  pub ended : Span

-- the element is the one that ended last, by its kind, its first place and its core
abbrev pub IsLast : SplitterModel → ElementModel → Type 0
IsLast splitting piece = (piece.kind ≡ splitting.ended.kind) × (piece.start ≡ splitting.ended.start) × (piece.core ≡ splitting.ended.core)

-- the first place at which an element that is given later may begin
abbrev pub keep : SplitterModel → ℕ
keep splitting = kept splitting.opens splitting.begun splitting.taken

-- whether 64 things are open while what has begun is sure to open one more, which is too deep
abbrev pub IsFull : Bool → Begun → List Open → Type 0
IsFull true begun opens = ((opener : Opener) × (last begun.part ≡ Opens opener)) × (length opens ≡ 64)
IsFull false begun opens = (opener : Opener) → last begun.part ≡ Opens opener → length opens ≢ 64

-- the splitter has taken the first bytes of the input, as many as these; these elements have ended, and it met no
-- fault; what has begun is not too deep (a tag is whole only after its name, but too deep from its first byte on)
pub record IsAfter (bytes input : List ℕ) (pieces : List ElementModel) (splitting : SplitterModel) : Type 0 where
  pub no_fault : splitting.fault ≡ None
  pub taken : splitting.taken ≡ length bytes
  pub present : StandsWithin input (length bytes) pieces splitting.opens splitting.begun
  pub not_full : IsFull false splitting.begun splitting.opens

-- the splitter has taken the bytes and given these elements, in every input that goes on with the bytes known to come
-- next (an Atom ends only where the next byte does not go on with it, so after it that byte is known)
abbrev pub StandsAfter : List ℕ → List ℕ → List ElementModel → SplitterModel → Type 0
StandsAfter bytes next pieces splitting = (input more : List ℕ) → input ≡ bytes ++ (next ++ more) → IsAfter bytes input pieces splitting

-- the element begins at the first place and has the bytes from there to the second one, at least one
abbrev pub IsElementAt : List ℕ → ℕ → ℕ → ElementModel → Type 0
IsElementAt bytes start end piece = (piece.start ≡ start) × (start < end) × (piece.text ≡ take (end - start) (drop start bytes))

-- so many bytes of a chunk were used after the bytes: all of them, and no element ended; or those up to the end of the
-- next element, which begins no earlier than the place that was kept
abbrev pub TakesUpTo : List ℕ → List ℕ → List ℕ → List ElementModel → SplitterModel → ℕ → Option (ℕ × ℕ) → SplitterModel → Type 0
TakesUpTo bytes piece next pieces old used None new = (used ≡ length piece) × StandsAfter (bytes ++ piece) next pieces new × (keep old ≤ keep new)
TakesUpTo bytes piece next pieces old used (Some span) new =
    (used ≤ length piece) × (span.1 ≡ length bytes + used) × (keep old ≤ span.0) × (keep new ≡ span.1)
    × ((last : ElementModel) × IsElementAt (bytes ++ piece) span.0 span.1 last × StandsAfter (bytes ++ take used piece) (drop used piece ++ next) (pieces ++ last ∷ []) new
    × ((input more : List ℕ) → input ≡ bytes ++ ((piece ++ next) ++ more) → IsFront input (pieces ++ last ∷ []) span.1)
    × IsLast new last)

-- memory was refused at a byte of the chunk: the bytes before it are taken, no element ended, and reading goes on with
-- it; in each input that goes on so, memory may be refused where the last token began (`CanWantMemory`)
abbrev pub WantsMemory : List ℕ → List ℕ → List ℕ → List ElementModel → ℕ → SplitterModel → Type 0
WantsMemory bytes piece next pieces place new =
    (length bytes ≤ place) × (place < length bytes + length piece) × (new.taken ≡ place)
    × StandsAfter (bytes ++ take (place - length bytes) piece) (drop (place - length bytes) piece ++ next) pieces new
    × ((input more : List ℕ) → input ≡ bytes ++ ((piece ++ next) ++ more) → CanWantMemory input pieces new.begun.start)

-- the splitter keeps the fault, which is that of each input that goes on from the bytes with those known to come, and
-- these are the elements before it
abbrev pub KeepsFault : List ℕ → List ℕ → List ElementModel → EdnFault → SplitterModel → Type 0
KeepsFault bytes known pieces fault new =
    (new.fault ≡ Some fault) × ((input more : List ℕ) → input ≡ bytes ++ (known ++ more) → FaultOf input fault × AreElementsBefore input pieces)

-- what taking a chunk after the bytes answered: how many of its bytes were used, or a fault, or that memory was
-- refused; the place that is kept never falls
abbrev pub Takes : List ℕ → List ℕ → List ℕ → List ElementModel → SplitterModel → Result Taken EdnFault → SplitterModel → Type 0
Takes bytes piece next pieces old (Ok taken) new = TakesUpTo bytes piece next pieces old taken.used taken.whole new
Takes bytes piece next pieces old (Err fault) new =
    (keep old ≤ keep new) × MatchOption (wanted_at fault) (KeepsFault bytes (piece ++ next) pieces fault new) (λ place. WantsMemory bytes piece next pieces place new)

-- what taking a chunk answered (`Takes`), whatever bytes and elements came before it
abbrev pub TakesOn : List ℕ → SplitterModel → Result Taken EdnFault → SplitterModel → Type 0
TakesOn piece old result new = (bytes next : List ℕ) (pieces : List ElementModel) → StandsAfter bytes (piece ++ next) pieces old → Takes bytes piece next pieces old result new

-- what the end of the input answered: no more element, or one that ends there, or the input's fault, which is kept, or
-- that memory was refused for what has begun and all is as before; the place that is kept never falls
abbrev pub Finishes : List ℕ → List ElementModel → SplitterModel → Result (Option (ℕ × ℕ)) EdnFault → SplitterModel → Type 0
Finishes input pieces old (Ok None) new = IsText input pieces × IsAfter input input pieces new × (keep old ≤ keep new)
Finishes input pieces old (Ok (Some span)) new =
    (span.1 ≡ length input) × (keep old ≤ span.0) × (keep new ≡ span.1)
    × ((last : ElementModel) × IsElementAt input span.0 span.1 last × IsText input (pieces ++ last ∷ []) × IsAfter input input (pieces ++ last ∷ []) new × IsLast new last)
Finishes input pieces old (Err fault) new =
    (keep old ≤ keep new)
    × MatchOption (wanted_at fault) ((new.fault ≡ Some fault) × FaultOf input fault × AreElementsBefore input pieces) (λ place. (new ≡ old) × (place ≡ old.begun.start) × CanWantMemory input pieces place)

-- what the end answered (`Finishes`), for each input that ends there
abbrev pub EndsOn : SplitterModel → Result (Option (ℕ × ℕ)) EdnFault → SplitterModel → Type 0
EndsOn old result new = (input : List ℕ) (pieces : List ElementModel) → IsAfter input input pieces old → Finishes input pieces old result new

-- nothing is open, and the next byte begins a new token
abbrev pub IsBetweenElements : SplitterModel → Type 0
IsBetweenElements splitting = (splitting.opens ≡ []) × (splitting.begun.start ≡ splitting.taken)

-- the answer that this element ended: how many bytes up to its end were not taken before, and its places
abbrev pub ended_element : SplitterModel → ElementModel → Taken
ended_element old piece = record { used = piece.start + length piece.text - old.taken; whole = Some (piece.start, piece.start + length piece.text) }
