-- What a token leads to where brackets, tags and discards are open. No public clause uses these words.
use Rattle.std.specs.Prelude.{◌≡◌, ◌≢◌, ◌<◌, ◌≤◌, ◌+◌, ◌-◌, ◌⊎◌, ℕ, Bool, true, false, ◌==◌, ◌&&◌, if◌then◌else◌, not, List, [], ◌∷◌, ◌++◌, length, take, drop, Option, Some, None, Result, Ok, Err, IfSome}
use Rattle.edn_reader.specs.declared.bytes.Bracket.{Bracket}
use Rattle.edn_reader.specs.declared.element.ElementKind.{ElementKind}
use Rattle.edn_reader.specs.declared.element.ElementKind.TheVariants.{Tagged}
use Rattle.edn_reader.specs.declared.fault.EdnFault.{EdnFault}
use Rattle.edn_reader.specs.declared.fault.EdnFault.TheVariants.{Truncated, StrayClose, WrongClose, TooDeep, OddMap, TagWithoutElement}
use Rattle.edn_reader.specs.declared.nesting.Open.{Open}
use Rattle.edn_reader.specs.declared.step.Span.{Span}
use Rattle.edn_reader.specs.declared.token.Token.{Token}
use Rattle.edn_reader.specs.declared.token.Token.TheVariants as tokens
use Rattle.edn_reader.specs.declared.token.Opener.{Opener}
use Rattle.edn_reader.specs.declared.token.Opener.TheVariants as openers
use Rattle.edn_reader.specs.Grammar.{ElementModel, fits, waits, is_paired, kind_of}
use Rattle.edn_reader.specs.Text.{IsFront, IsText}
use Rattle.edn_reader.specs.Token.{lexed}
use Rattle.edn_reader.specs.Fault.{FaultOf, IsMemory, wanted_at, AreElementsBefore, innermost}

-- what a token leads to: reading goes on with these open, an outermost element ends, or there is a fault
pub data Taken : Type 0 where
  on : List Open → Taken
  ends : Span → Taken
  fails : EdnFault → Taken

-- what is open, with one more element in it
abbrev pub with_one : Open → Open
with_one item = record { place = item.place; opener = item.opener; odd = not item.odd }

-- whether what was opened is a tag
abbrev pub is_tag : Opener → Bool
is_tag openers.List = false
is_tag openers.Vector = false
is_tag openers.Map = false
is_tag openers.Set = false
is_tag openers.Tag = true
is_tag openers.Discard = false

-- the Tagged element of an open tag and of the element after it
abbrev pub after_tag : Open → Span → Span
after_tag item span = record { kind = Tagged; start = item.place; end = span.end; core = span.core }

-- what the end of an element leads to: it ends the tags before it too; then it is one more element of the innermost
-- bracket, or the one of a discard, or an outermost element
unfoldable pub completed : Span → List Open → Taken
completed span [] = ends span
completed span (item ∷ opens) =
    if is_tag item.opener then completed (after_tag item span) opens
    else if waits item.opener then on opens
    else on (with_one item ∷ opens)

-- the innermost thing open, or none, and what is open once an element has ended in it: a tag or a discard is gone, a
-- bracket has one more element
abbrev pub EndsOne : Option Open → List Open → List Open → Type 0
EndsOne None opens after = (opens ≡ []) × (after ≡ [])
EndsOne (Some item) opens after = (others : List Open) × (opens ≡ item ∷ others) × (after ≡ (if waits item.opener then others else with_one item ∷ others))

-- the span of an element without tags, of this kind, from one place to another
abbrev pub plain_span : ElementKind → ℕ → ℕ → Span
plain_span kind start after = record { kind = kind; start = start; end = after; core = record { kind = kind; start = start } }

-- the span of an element: its kind, its first place, its end and its core
abbrev pub span_of : ElementModel → Span
span_of piece = record { kind = piece.kind; start = piece.start; end = piece.start + length piece.text; core = piece.core }

-- the fault of a closing bracket before which a tag or a discard waits, by the innermost bracket, if there is one
abbrev pub fault_before : ℕ → Bracket → Open → Option Open → EdnFault
fault_before place bracket waiting None = StrayClose place
fault_before place bracket waiting (Some inner) = if fits inner.opener bracket then TagWithoutElement waiting.place else WrongClose place

-- what a closing bracket from one place to another leads to where these are open
unfoldable pub closed : ℕ → ℕ → Bracket → List Open → Taken
closed place after bracket [] = fails (StrayClose place)
closed place after bracket (item ∷ opens) =
    if waits item.opener then fails (fault_before place bracket item (innermost opens))
    else if fits item.opener bracket then
    (if is_paired item.opener && item.odd then fails (OddMap place) else completed (plain_span (kind_of item.opener) item.place after) opens)
    else fails (WrongClose place)

-- what an opener at a place leads to where these are open: E4 where they are 64, else it is open too
abbrev pub opened : ℕ → Opener → List Open → Taken
opened place opener opens =
    if length opens == 64 then fails (TooDeep place) else on (record { place = place; opener = opener; odd = false } ∷ opens)

-- what a token from one place to another leads to where these are open
unfoldable pub taken : Token → ℕ → ℕ → List Open → Taken
taken tokens.Gap place after opens = on opens
taken (tokens.Leaf kind) place after opens = completed (plain_span kind place after) opens
taken (tokens.Opens opener) place after opens = opened place opener opens
taken (tokens.Closes bracket) place after opens = closed place after bracket opens
taken tokens.Unfinished place after opens = fails (Truncated after)

-- the tokens of the input lead from a place with these open to another with those open; no outermost element ends, and
-- no fault comes, on the way
pub data LeadsOn : List ℕ → ℕ → List Open → ℕ → List Open → Type 0 where
  stays : {input : List ℕ} {at : ℕ} {opens : List Open} → LeadsOn input at opens at opens
  by_token : {input : List ℕ} {from at : ℕ} {opens inner after : List Open} → LeadsOn input from opens at inner → at < length input
      → taken (lexed (drop at input)).0 at (at + (lexed (drop at input)).1) inner ≡ on after → LeadsOn input from opens (at + (lexed (drop at input)).1) after

-- the input has this chunk at a place, and these bytes after it
abbrev pub IsPieceAt : List ℕ → ℕ → List ℕ → List ℕ → Type 0
IsPieceAt input base piece following = (base ≤ length input) × (drop base input ≡ piece ++ following)

-- tokens lead from an index of a chunk with these open to another with those open, in every input that has the chunk
abbrev pub LeadsOver : List ℕ → ℕ → List Open → ℕ → List Open → Type 0
LeadsOver piece from opens end after =
    (input : List ℕ) (base : ℕ) (following : List ℕ) → IsPieceAt input base piece following → LeadsOn input (base + from) opens (base + end) after

-- what is open, set to hold an odd number of elements or an even one
abbrev pub item_odd : Bool → Open → Open
item_odd odd item = record { place = item.place; opener = item.opener; odd = odd }

-- what is open, with the innermost set to hold an odd number of elements or an even one
abbrev pub with_odd : Bool → List Open → List Open
with_odd odd [] = []
with_odd odd (item ∷ opens) = item_odd odd item ∷ opens

-- whether what is innermost holds an odd number of elements; none where that is a tag or a discard, or nothing is open
abbrev pub odd_inside : List Open → Option Bool
odd_inside [] = None
odd_inside (item ∷ opens) = if waits item.opener then None else Some item.odd

-- tokens lead from an index of a chunk to another within any bracket, and change only whether it holds an odd number of
-- elements: from the first Bool to the second
abbrev pub LeadsWithin : List ℕ → ℕ → Bool → ℕ → Bool → Type 0
LeadsWithin piece from odd end odd_then =
    (item : Open) (opens : List Open) → waits item.opener ≡ false → LeadsOver piece from (item_odd odd item ∷ opens) end (item_odd odd_then item ∷ opens)

-- the program answered what the token leads to, with the same things open, unless memory was refused
abbrev pub Gives : Result (Option Span) EdnFault → List Open → Taken → Type 0
Gives (Ok None) opens token = token ≡ on opens
Gives (Ok (Some span)) opens token = (token ≡ ends span) × (opens ≡ [])
Gives (Err fault) opens token = IsMemory fault ⊎ (token ≡ fails fault)

-- if the fault is E7, it is at this place, where the token opens one more thing while 16 or more, but not 64, are open;
-- these stay open
abbrev pub GrowthRefused : Token → ℕ → List Open → EdnFault → List Open → Type 0
GrowthRefused token place opens fault after =
    IfSome (wanted_at fault) (λ at. (at ≡ place) × (after ≡ opens) × (opener : Opener) × (token ≡ tokens.Opens opener) × (16 ≤ length opens) × (length opens ≢ 64))

-- after a fault all is open that was, but perhaps the innermost, which a closing bracket may have taken
abbrev pub StaysOpen : List Open → List Open → Type 0
StaysOpen opens after = (after ≡ opens) ⊎ ((item : Open) × (opens ≡ item ∷ after))

-- the element at a span of the input
abbrev pub piece_in : List ℕ → Span → ElementModel
piece_in input span = record { kind = span.kind; start = span.start; text = take (span.end - span.start) (drop span.start input); core = span.core }

-- what reading from a place to the end of the next outermost element says of the input: it has one more element, or it
-- is a text, or it has the fault; nothing where memory was refused
abbrev pub Reads : List ℕ → ℕ → Result (Option Span) EdnFault → List Open → Type 0
Reads input from (Ok (Some span)) opens =
    (opens ≡ [])
    × (from < span.end)
    × ((pieces : List ElementModel) → IsFront input pieces from
    → (span.start ≤ span.core.start) × (span.core.start < span.end) × (span.end ≤ length input) × IsFront input (pieces ++ piece_in input span ∷ []) span.end)
Reads input from (Ok None) opens = (opens ≡ []) × ((pieces : List ElementModel) → IsFront input pieces from → IsText input pieces)
Reads input from (Err fault) opens =
    IsMemory fault ⊎ ((pieces : List ElementModel) → IsFront input pieces from → FaultOf input fault × AreElementsBefore input pieces)
