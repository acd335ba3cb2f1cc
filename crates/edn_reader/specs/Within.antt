-- What is open and what has begun where the bytes so far may end within a token, and what reading on says.
-- An input is all the bytes, read and to come. Public clauses use these words only through those of Splitting.antt.
use Rattle.std.specs.Prelude.{◌≡◌, ◌≤◌, ◌<◌, ◌+◌, ◌-◌, ◌⊎◌, ℕ, List, [], ◌∷◌, ◌++◌, length, take, drop, Option, Some, None, Result, Ok, Err, IfSome}
use Rattle.edn_reader.specs.declared.fault.EdnFault.{EdnFault}
use Rattle.edn_reader.specs.declared.nesting.Open.{Open}
use Rattle.edn_reader.specs.declared.step.Span.{Span}
use Rattle.edn_reader.specs.declared.token.Token.{Token}
use Rattle.edn_reader.specs.declared.token.Token.TheVariants as tokens
use Rattle.edn_reader.specs.declared.tokens.Begun.{Begun}
use Rattle.edn_reader.specs.declared.tokens.Reached.{Reached}
use Rattle.edn_reader.specs.declared.tokens.Reached.TheVariants.{Ended, Within}
use Rattle.edn_reader.specs.Grammar.{ElementModel}
use Rattle.edn_reader.specs.Text.{IsFront, IsText, StandsOpen}
use Rattle.edn_reader.specs.Fault.{FaultOf, IsMemory, wanted_at, MemoryOnlyThere, AreElementsBefore}
use Rattle.edn_reader.specs.Token.{lexed}
use Rattle.edn_reader.specs.Resuming.{longer, resumed, last}
use Rattle.edn_reader.specs.Taking.{IsPieceAt, piece_in}

-- at a place of the input these elements have ended, these things are open where the last token began, and that token
-- is what its part makes of the bytes from the place on, whatever they are
pub record StandsWithin (input : List ℕ) (at : ℕ) (pieces : List ElementModel) (opens : List Open) (begun : Begun) : Type 0 where
  pub low : begun.start ≤ at
  pub present : StandsOpen input pieces opens begun.start (drop begun.start input)
  pub makes : (more : List ℕ) → lexed (take (at - begun.start) (drop begun.start input) ++ more) ≡ longer (at - begun.start) (resumed begun.part more)

-- the input has one more outermost element after these, at this span
abbrev pub OneMore : List ℕ → List ElementModel → Span → Type 0
OneMore input pieces span =
    (span.start ≤ span.core.start) × (span.core.start < span.end) × (span.end ≤ length input) × IsFront input (pieces ++ piece_in input span ∷ []) span.end

-- the fault is that of the input, with these elements before it; or it is E7, where memory may be refused after them
abbrev pub FaultBehind : List ℕ → List ElementModel → EdnFault → Type 0
FaultBehind input pieces fault = (IsMemory fault ⊎ (FaultOf input fault × AreElementsBefore input pieces)) × MemoryOnlyThere input pieces fault

-- the place of the outermost thing that is open, or this place where nothing is
abbrev pub outer : List Open → ℕ → ℕ
outer [] place = place
outer (item ∷ opens) place = outer opens item.place

-- the place from which bytes are still needed where the last token, which may go on, is this one: its start, but the
-- end of a gap, in which no element begins
abbrev pub kept_token : Token → ℕ → ℕ → ℕ
kept_token tokens.Gap start at = at
kept_token (tokens.Leaf kind) start at = start
kept_token (tokens.Opens opener) start at = start
kept_token (tokens.Closes bracket) start at = start
kept_token tokens.Unfinished start at = start

-- the first place at which an element that has not ended may begin
abbrev pub kept : List Open → Begun → ℕ → ℕ
kept opens begun at = outer opens (kept_token (last begun.part) begun.start at)

-- if the fault is E7, its place is before this end, and these things are open there, after these elements
abbrev pub StandsWhereWanted : List ℕ → ℕ → List ElementModel → List Open → EdnFault → Type 0
StandsWhereWanted input end pieces opens fault =
    IfSome (wanted_at fault) (λ place. (place < end) × StandsOpen input pieces opens place (drop place input))

-- what reading a chunk up to an end says of the input: an outermost element ended, or all was read, or there is a
-- fault; what ended or is still open begins no earlier than the place that was kept
abbrev pub Reaches : List ℕ → ℕ → List ElementModel → ℕ → Result Reached EdnFault → List Open → Type 0
Reaches input end pieces keep (Ok (Ended span)) opens = OneMore input pieces span × (keep ≤ span.start)
Reaches input end pieces keep (Ok (Within begun)) opens = StandsWithin input end pieces opens begun × (keep ≤ kept opens begun end)
Reaches input end pieces keep (Err fault) opens = FaultBehind input pieces fault × StandsWhereWanted input end pieces opens fault × (keep ≤ outer opens keep)

-- what reading a chunk from an index on says (`Reaches`) of each input that has the chunk at this base, where nothing
-- has begun before that index
abbrev pub ReadsOn : List ℕ → ℕ → ℕ → List Open → Result Reached EdnFault → List Open → Type 0
ReadsOn piece base from opens result after =
    (input following : List ℕ) (pieces : List ElementModel) → IsPieceAt input base piece following → StandsOpen input pieces opens (base + from) (drop (base + from) input)
    → Reaches input (base + length piece) pieces (outer opens (base + from)) result after

-- what reading a chunk says (`Reaches`) of each input that has the chunk at this base, with what has begun before it
abbrev pub ReadsPiece : List ℕ → ℕ → Begun → List Open → Result Reached EdnFault → List Open → Type 0
ReadsPiece piece base begun opens result after =
    (input following : List ℕ) (pieces : List ElementModel) → IsPieceAt input base piece following → StandsWithin input base pieces opens begun
    → Reaches input (base + length piece) pieces (kept opens begun base) result after

-- an element ended with low < end ≤ high, and nothing is open; or the last token begins with low ≤ start ≤ high
abbrev pub IsBetween : ℕ → ℕ → Reached → List Open → Type 0
IsBetween low high (Ended span) opens = (opens ≡ []) × (low < span.end) × (span.end ≤ high)
IsBetween low high (Within begun) opens = (low ≤ begun.start) × (begun.start ≤ high)

-- if an element ended, low ≤ end ≤ high, and nothing is open
abbrev pub EndsBetween : ℕ → ℕ → Reached → List Open → Type 0
EndsBetween low high (Ended span) opens = (opens ≡ []) × (low ≤ span.end) × (span.end ≤ high)
EndsBetween low high (Within begun) opens = Unit {0}

-- if the fault is E7, low ≤ its place, and the chunk, of `size` bytes, is not empty
abbrev pub WantsFrom : ℕ → ℕ → EdnFault → Type 0
WantsFrom low size fault = IfSome (wanted_at fault) (λ place. (0 < size) × (low ≤ place))

-- if the fault is E7, the chunk, of `size` bytes, is not empty; where the place is before its base, it is the start of
-- what had begun, and all that was open still is
abbrev pub WantsInPiece : ℕ → ℕ → ℕ → List Open → EdnFault → List Open → Type 0
WantsInPiece base size start opens fault after =
    IfSome (wanted_at fault) (λ place. (0 < size) × (place < base → (place ≡ start) × (after ≡ opens)))

-- if the fault is E7, its place is the start of what had begun, and all that was open still is
abbrev pub WantsAtEnd : ℕ → List Open → EdnFault → List Open → Type 0
WantsAtEnd start opens fault after = IfSome (wanted_at fault) (λ place. (place ≡ start) × (after ≡ opens))

-- what the end of the input says: it is a text with these elements, or with one more that ends there, or it has a
-- fault; what ended or is still open begins no earlier than the place that was kept
abbrev pub Concludes : List ℕ → List ElementModel → ℕ → Result (Option Span) EdnFault → List Open → Type 0
Concludes input pieces keep (Ok None) opens = IsText input pieces
Concludes input pieces keep (Ok (Some span)) opens = OneMore input pieces span × IsText input (pieces ++ piece_in input span ∷ []) × (keep ≤ span.start)
Concludes input pieces keep (Err fault) opens = FaultBehind input pieces fault × (keep ≤ outer opens keep)

-- what the end says (`Concludes`) of each input of this length, with what has begun before it
abbrev pub ReadsEnd : ℕ → Begun → List Open → Result (Option Span) EdnFault → List Open → Type 0
ReadsEnd end begun opens result after =
    (input : List ℕ) (pieces : List ElementModel) → length input ≡ end → StandsWithin input end pieces opens begun → Concludes input pieces (kept opens begun end) result after

-- nothing is open, and if an element ended, it did so at `end`, which is after `start`
abbrev pub EndsAt : ℕ → ℕ → Option Span → List Open → Type 0
EndsAt start end None opens = opens ≡ []
EndsAt start end (Some span) opens = (opens ≡ []) × (start < end) × (span.end ≡ end)
