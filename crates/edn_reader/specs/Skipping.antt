-- Ways over whole gaps, tags and elements, by tokens alone. No public clause uses these words.
use Rattle.std.specs.Prelude.{◌≡◌, ◌≢◌, ◌+◌, ◌≤◌, ◌<◌, ℕ, zero, suc, pred, Bool, true, false, List, ◌∷◌, length, drop, Option, Some, None}
use Rattle.edn_reader.specs.declared.element.ElementKind.{ElementKind}
use Rattle.edn_reader.specs.declared.element.Core.{Core}
use Rattle.edn_reader.specs.declared.parts.Parts.{Parts}
use Rattle.edn_reader.specs.declared.lookahead.OpenCounts.{OpenCounts}
use Rattle.edn_reader.specs.declared.lookahead.Lookahead.{Lookahead}
use Rattle.edn_reader.specs.declared.token.Token.{Token}
use Rattle.edn_reader.specs.declared.token.Token.TheVariants.{Gap, Leaf, Opens, Closes, Unfinished}
use Rattle.edn_reader.specs.declared.token.Opener.{Opener}
use Rattle.edn_reader.specs.declared.token.Opener.TheVariants as openers
use Rattle.edn_reader.specs.Grammar.{ElementModel, untagged, IsGap, IsElementAt, kind_of}
use Rattle.edn_reader.specs.Token.{found_at, lexed}

-- what is still to end, of so many brackets and so many elements, once an element has ended: one element fewer, but
-- within brackets no change
abbrev pub ended_at : ℕ → ℕ → OpenCounts
ended_at zero elements = record { brackets = 0; elements = pred elements }
ended_at (suc brackets) elements = record { brackets = suc brackets; elements = elements }

-- what is still to end, of these counts, once an element has ended: one element fewer, but within brackets no change
abbrev pub ended_one : OpenCounts → OpenCounts
ended_one counts = ended_at counts.brackets counts.elements

-- what is still to end, of so many brackets and so many elements, after a discard: one element more, but within
-- brackets no change
abbrev pub one_more_wanted : ℕ → ℕ → OpenCounts
one_more_wanted zero elements = record { brackets = 0; elements = suc elements }
one_more_wanted (suc brackets) elements = record { brackets = suc brackets; elements = elements }

-- what is still to end, of so many brackets and so many elements, after a closing bracket: one bracket fewer, and an
-- element has ended; where no bracket was open, nothing
abbrev pub closed_at : ℕ → ℕ → OpenCounts
closed_at zero elements = record { brackets = 0; elements = 0 }
closed_at (suc brackets) elements = ended_at brackets elements

-- what is still to end after an opener: one bracket more, or for a discard one element more; a tag changes nothing
abbrev pub opened_with : Opener → OpenCounts → OpenCounts
opened_with openers.List counts = record { brackets = suc counts.brackets; elements = counts.elements }
opened_with openers.Vector counts = record { brackets = suc counts.brackets; elements = counts.elements }
opened_with openers.Map counts = record { brackets = suc counts.brackets; elements = counts.elements }
opened_with openers.Set counts = record { brackets = suc counts.brackets; elements = counts.elements }
opened_with openers.Tag counts = counts
opened_with openers.Discard counts = one_more_wanted counts.brackets counts.elements

-- what is still to end after a token
abbrev pub counts_after : Token → OpenCounts → OpenCounts
counts_after Gap counts = counts
counts_after (Leaf kind) counts = ended_one counts
counts_after (Opens opener) counts = opened_with opener counts
counts_after (Closes bracket) counts = closed_at counts.brackets counts.elements
counts_after Unfinished counts = counts

-- the kind of the element that begins with a token; none for a gap, a closing bracket and an unfinished token
abbrev pub kind_token : Token → Option ElementKind
kind_token Gap = None
kind_token (Leaf kind) = Some kind
kind_token (Opens opener) = Some (kind_of opener)
kind_token (Closes bracket) = None
kind_token Unfinished = None

-- whether a token is that of a tag
abbrev pub is_tag_token : Token → Bool
is_tag_token Gap = false
is_tag_token (Leaf kind) = false
is_tag_token (Opens openers.List) = false
is_tag_token (Opens openers.Vector) = false
is_tag_token (Opens openers.Map) = false
is_tag_token (Opens openers.Set) = false
is_tag_token (Opens openers.Tag) = true
is_tag_token (Opens openers.Discard) = false
is_tag_token (Closes bracket) = false
is_tag_token Unfinished = false

-- the lookahead has the token of the bytes at its place, which takes a byte or more and ends within the bytes
pub record HasToken (bytes : List ℕ) (front : Lookahead) : Type 0 where
  pub found : front.found ≡ found_at front.at (lexed (drop front.at bytes))
  pub forward : front.at < front.found.end
  pub within : front.found.end ≤ length bytes

-- a gap does not begin with this token: it is neither white, nor a comment, nor a discard
abbrev pub NoGap : Token → Type 0
NoGap Gap = ⊥
NoGap (Leaf kind) = Unit {0}
NoGap (Opens openers.List) = Unit {0}
NoGap (Opens openers.Vector) = Unit {0}
NoGap (Opens openers.Map) = Unit {0}
NoGap (Opens openers.Set) = Unit {0}
NoGap (Opens openers.Tag) = Unit {0}
NoGap (Opens openers.Discard) = ⊥
NoGap (Closes bracket) = Unit {0}
NoGap Unfinished = Unit {0}

-- where the bytes from one place on have a gap and an element, the element ends at the other place
abbrev pub SkipsElement : List ℕ → ℕ → ℕ → Type 0
SkipsElement bytes from end =
    (room start begins after : ℕ) (kind : ElementKind) (core : Core) (left rest : List ℕ) → IsGap room start (drop from bytes) begins left
    → IsElementAt room kind core begins left after rest → (start + end ≡ after + from)

-- where the bytes from one place on have a gap, and then a token that begins none, the gap ends at the other place
abbrev pub SkipsGap : List ℕ → ℕ → ℕ → Type 0
SkipsGap bytes from end =
    (room start after : ℕ) (rest : List ℕ) → IsGap room start (drop from bytes) after rest → NoGap (lexed rest).0 → (start + end ≡ after + from)

-- where the bytes have an element at one place, its core begins at the other
abbrev pub SkipsTags : List ℕ → ℕ → ℕ → Type 0
SkipsTags bytes from end =
    (room start after : ℕ) (kind : ElementKind) (core : Core) (rest : List ℕ) → IsElementAt room kind core start (drop from bytes) after rest
    → (start + end ≡ core.start + from)

-- what is after the bracket, given by its byte, with which the element without its tags begins; none where it is of
-- another kind or begins otherwise
abbrev pub IsInside : Option Parts → ElementModel → ElementKind → ℕ → Type 0
IsInside None piece kind bracket = piece.core.kind ≡ kind → (bytes : List ℕ) → (untagged piece).text ≢ bracket ∷ bytes
IsInside (Some parts) piece kind bracket =
    (piece.core.kind ≡ kind) × ((untagged piece).text ≡ bracket ∷ parts.left.now) × (parts.at ≡ suc piece.core.start)
