-- What is lent is what the grammar says. A fact kept with an element or a view says only that some proof of it exists;
-- the reader decides the fact, and so there is a proof to use.
use Rattle.std.proofs.Common.{◌≡◌, ◌+◌, ◌-◌, ◌<◌, ◌&&◌, ◌≤◌, ⊎_elim, ℕ, zero, suc, false, List, [], ◌∷◌, ◌++◌, drop, Option, Some, None, MatchOption, refl, sym, ap, subst, ◌∙◌, arith}
use Rattle.std.proofs.Math.Logic.{∥∥₁_elim, ∥∥₁_map}
use Rattle.std.proofs.Props.{props}
use Rattle.std.specs.Coded.{le_prop}
use Rattle.std.proofs.lemmas.List.{append-nil}
use Rattle.std.specs.List.{AllByRecursion}
use Rattle.edn_reader.specs.declared.bytes.Bracket.{Bracket}
use Rattle.edn_reader.specs.declared.bytes.Bracket.TheVariants.{Square, Curly}
use Rattle.edn_reader.specs.declared.bytes.ByteClass.TheVariants.{White}
use Rattle.edn_reader.specs.declared.element.ElementKind.TheVariants as kinds
use Rattle.edn_reader.specs.declared.element.Element.{Element}
use Rattle.edn_reader.specs.declared.parts.Parts.{Parts}
use Rattle.edn_reader.specs.declared.token.Opener.{Opener}
use Rattle.edn_reader.specs.declared.token.Opener.TheVariants as openers
use Rattle.edn_reader.specs.declared.view.MapView.{MapView}
use Rattle.edn_reader.specs.declared.view.VectorView.{VectorView}
use Rattle.edn_reader.specs.Bytes.{class_of}
use Rattle.edn_reader.specs.Grammar.{ElementModel, untagged, white, opening, opener_of, kind_of, is_paired, is_odd, IsGap, nothing, skipped, bracketed, none, next, IsElement}
use Rattle.edn_reader.specs.Lent.{piece_of, PartsLeft, HoldsParts, part_bytes, NextPart, MembersLeft, PairsLeft}
use Rattle.edn_reader.specs.Pairs.{PartsFrom, HasParts, HoldsMembers, in_turn, HoldsPairs}
use Rattle.edn_reader.specs.Skipping.{IsInside}
use Rattle.edn_reader.specs.Text.{IsText, outermost}
use Rattle.edn_reader.proofs.Ended.{present_text}
use Rattle.edn_reader.proofs.Reading.{settled_text}
use Rattle.edn_reader.proofs.Viable.{one_division, no_fault}
use Rattle.edn_reader.proofs.Views.{each_is_element, parts_are_elements, untagged_is_element, OneByte, square, curly, opened_by, tail_same, has_parts, has_pairs, parts_of_inside, FoundPart}

-- ---- an element is one by a proof

white_space : class_of 32 ≡ White
unfolding class_of
white_space = refl

abbrev spaces : ℕ → List ℕ
spaces zero = []
spaces (suc n) = 32 ∷ spaces n

gap_of_spaces : (n place : ℕ) (bytes : List ℕ) → IsGap 64 place (spaces n ++ bytes) (place + n) bytes
gap_of_spaces zero place bytes = let same : place ≡ place + 0 = omega arith in subst (λ (p : ℕ). IsGap 64 place bytes p bytes) same nothing
gap_of_spaces (suc n) place bytes =
    let same : suc place + n ≡ place + suc n = omega arith in
    subst (λ (p : ℕ). IsGap 64 place (32 ∷ spaces n ++ bytes) p bytes) same (skipped (white white_space) (gap_of_spaces n (suc place) bytes))

-- an input in which the element is alone, at its place, after white bytes
abbrev alone : ElementModel → List ℕ
alone piece = spaces piece.start ++ piece.text

alone_text : (piece : ElementModel) → IsElement piece → IsText (alone piece) (piece ∷ [])
alone_text piece h =
    let place : 0 + piece.start ≡ piece.start = omega arith in
    let gap : IsGap 64 0 (alone piece) piece.start piece.text = subst (λ (p : ℕ). IsGap 64 0 (alone piece) p piece.text) place (gap_of_spaces piece.start 0 piece.text) in
    present_text (outermost (next gap h.1 (sym (append-nil piece.text)) none) nothing)

pub decided : (piece : ElementModel) → ∥ IsElement piece ∥₁ → IsElement piece
decided piece some =
    ⊎_elim
    (λ (text : (pieces : List ElementModel) × IsText (alone piece) pieces).
    let at_most_one : IsProp (text.0 ≡ piece ∷ []) = hlevel props in
    let same : text.0 ≡ piece ∷ [] = ∥∥₁_elim some at_most_one (λ h. one_division (alone piece) text.0 (piece ∷ []) text.1 (alone_text piece h)) in
    let low : 64 ≤ 64 = omega arith in
    let all : AllByRecursion IsElement text.0 = each_is_element low text.1.2 in
    (subst (AllByRecursion IsElement) same all).0)
    (λ found.
    let none : ⊥ = ∥∥₁_elim some (λ x y. absurd x) (λ h. no_fault (alone piece) (piece ∷ []) found.0 (alone_text piece h) found.1) in
    absurd none)
    (settled_text (alone piece))

pub lent_is_element : (element : Element) → IsElement (piece_of element)
lent_is_element element = decided (piece_of element) element.whole

-- an element without its tags is one too
pub untagged_whole : (piece : ElementModel) → ∥ IsElement piece ∥₁ → ∥ IsElement (untagged piece) ∥₁
untagged_whole piece some = ∥∥₁_map some (untagged_is_element piece)

-- ---- elements and pairs up to a bracket, by a proof

odd_not : (pairs : List (ElementModel × ElementModel)) → is_odd (in_turn pairs) ≡ false
odd_not [] = refl
odd_not (pair ∷ pairs) = rw (odd_not pairs) refl

-- the element that the bytes make with this bracket before them, at the place before
abbrev with_bracket : Bracket → ℕ → ℕ → List ℕ → ElementModel
with_bracket bracket byte place bytes = record {
  kind = kind_of (opener_of bracket);
  start = place;
  text = byte ∷ bytes;
  core = record { kind = kind_of (opener_of bracket); start = place };
}

bracket_element : (bracket : Bracket) (byte : ℕ) → OneByte bracket byte → (place : ℕ) (bytes : List ℕ) (pieces : List ElementModel) → PartsFrom (opener_of bracket) (suc place) bytes pieces
    → is_paired (opener_of bracket) && is_odd pieces ≡ false → IsElement (with_bracket bracket byte place bytes)
bracket_element bracket byte one place bytes pieces h even = (h.after, bracketed (opening one.opens) h.elements h.gap h.close h.closes even)

inside_bracket : (bracket : Bracket) (byte place : ℕ) (bytes : List ℕ) (pieces : List ElementModel) → HasParts (opener_of bracket) (with_bracket bracket byte place bytes) pieces → PartsFrom (opener_of bracket) (suc place) bytes pieces
inside_bracket bracket byte place bytes pieces h =
    let o = opened_by bracket h.opens refl in
    let none_before : place - place ≡ 0 = omega arith in
    let all : drop (place - place) (byte ∷ bytes) ≡ byte ∷ bytes = ap (λ (n : ℕ). drop n (byte ∷ bytes)) none_before in
    let tail : h.left ≡ bytes = tail_same (sym o.bytes ∙ all) in
    subst (λ (p : ℕ). PartsFrom (opener_of bracket) p bytes pieces) o.place (subst (λ (x : List ℕ). PartsFrom (opener_of bracket) h.inner x pieces) tail h.inside)

pub decided_pairs : (place : ℕ) (bytes : List ℕ) → 0 < place → ∥ HoldsPairs place bytes ∥₁ → HoldsPairs place bytes
decided_pairs zero bytes following some = absurd (omega (arith, following))
decided_pairs (suc place) bytes following some =
    let piece = with_bracket Curly 123 place bytes in
    let there : ∥ IsElement piece ∥₁ = ∥∥₁_map some (λ h. bracket_element Curly 123 curly place bytes (in_turn h.0) h.1 (odd_not h.0)) in
    let found = has_pairs piece (decided piece there) refl in
    (found.0, inside_bracket Curly 123 place bytes (in_turn found.0) found.1)

pub decided_members : (place : ℕ) (bytes : List ℕ) → 0 < place → ∥ HoldsMembers place bytes ∥₁ → HoldsMembers place bytes
decided_members zero bytes following some = absurd (omega (arith, following))
decided_members (suc place) bytes following some =
    let piece = with_bracket Square 91 place bytes in
    let there : ∥ IsElement piece ∥₁ = ∥∥₁_map some (λ h. bracket_element Square 91 square place bytes h.0 h.1 refl) in
    let found = has_parts Square piece (decided piece there) refl in
    (found.0, inside_bracket Square 91 place bytes found.0 found.1)

pub pairs_there : (view : MapView) → (pairs : List (ElementModel × ElementModel)) × PairsLeft view pairs
pairs_there view = decided_pairs view.parts.at view.parts.left.now view.following view.whole

pub members_there : (view : VectorView) → (members : List ElementModel) × MembersLeft view members
members_there view = decided_members view.parts.at view.parts.left.now view.following view.whole

-- ---- views of an element

pub pairs_inside : (parts : Parts) (piece : ElementModel) → IsInside (Some parts) piece kinds.Map 123 → IsElement piece → HoldsPairs parts.at parts.left.now
pairs_inside parts piece inside h =
    let found = has_pairs piece h inside.0 in
    (found.0, (parts_of_inside Curly 123 curly parts piece inside (in_turn found.0)).0 found.1)

pub members_inside : (parts : Parts) (piece : ElementModel) → IsInside (Some parts) piece kinds.Vector 91 → IsElement piece → HoldsMembers parts.at parts.left.now
members_inside parts piece inside h =
    let found = has_parts Square piece h inside.0 in
    (found.0, (parts_of_inside Square 91 square parts piece inside found.0).0 found.1)

-- ---- what is left after each call

-- what was found is an element
found_whole : (opener : Opener) (old after : Parts) (found : ElementModel) (pieces : List ElementModel) → PartsLeft opener old pieces → FoundPart opener found after pieces → IsElement found
found_whole opener old after found [] h n = absurd n
found_whole opener old after found (piece ∷ pieces) h n = subst IsElement (sym n.0) (parts_are_elements h).0

pub found_is_element : (old after : Parts) (found : ElementModel) → ∥ HoldsParts old ∥₁ → ((opener : Opener) (pieces : List ElementModel) → PartsLeft opener old pieces → FoundPart opener found after pieces) → ∥ IsElement found ∥₁
found_is_element old after found some f = ∥∥₁_map some (λ h. found_whole h.0 old after found h.1 h.2 (f h.0 h.1 h.2))

pub of_pairs : (parts : Parts) → ∥ HoldsPairs parts.at parts.left.now ∥₁ → ∥ HoldsParts parts ∥₁
of_pairs parts some = ∥∥₁_map some (λ h. (openers.Map, in_turn h.0, h.1))

pub of_members : (parts : Parts) → ∥ HoldsMembers parts.at parts.left.now ∥₁ → ∥ HoldsParts parts ∥₁
of_members parts some = ∥∥₁_map some (λ h. (openers.Vector, h.0, h.1))

abbrev Gives : Opener → Parts → Option Element → Parts → Type 0
Gives opener old given after = (pieces : List ElementModel) → PartsLeft opener old pieces → NextPart opener given after pieces

value_after : (old middle : Parts) (key : Element) → Gives openers.Map old (Some key) middle → (pairs : List (ElementModel × ElementModel)) → PartsLeft openers.Map old (in_turn pairs) → HoldsParts middle
value_after old middle key first [] h = absurd (first [] h)
value_after old middle key first (pair ∷ pairs) h = (openers.Map, pair.1 ∷ in_turn pairs, (first (pair.0 ∷ pair.1 ∷ in_turn pairs) h).1)

pub value_left : (old middle : Parts) (key : Element) → Gives openers.Map old (Some key) middle → ∥ HoldsPairs old.at old.left.now ∥₁ → ∥ HoldsParts middle ∥₁
value_left old middle key first some = ∥∥₁_map some (λ h. value_after old middle key first h.0 h.1)

pairs_after : (old middle after : Parts) (key value : Element) → Gives openers.Map old (Some key) middle → Gives openers.Map middle (Some value) after → (pairs : List (ElementModel × ElementModel))
    → PartsLeft openers.Map old (in_turn pairs) → HoldsPairs after.at after.left.now
pairs_after old middle after key value first second [] h = absurd (first [] h)
pairs_after old middle after key value first second (pair ∷ pairs) h = (pairs, (second (pair.1 ∷ in_turn pairs) (first (pair.0 ∷ pair.1 ∷ in_turn pairs) h).1).1)

pub pairs_left : (old middle after : Parts) (key value : Element) → Gives openers.Map old (Some key) middle → Gives openers.Map middle (Some value) after → ∥ HoldsPairs old.at old.left.now ∥₁
    → ∥ HoldsPairs after.at after.left.now ∥₁
pairs_left old middle after key value first second some = ∥∥₁_map some (λ h. pairs_after old middle after key value first second h.0 h.1)

members_after : (old after : Parts) (given : Option Element) → Gives openers.Vector old given after → MatchOption given (after ≡ old) (λ element. part_bytes after < part_bytes old)
    → (members : List ElementModel) → PartsLeft openers.Vector old members → HoldsMembers after.at after.left.now
members_after old after None first same members h = (members, subst (λ (parts : Parts). PartsLeft openers.Vector parts members) (sym same) h)
members_after old after (Some member) first less [] h = absurd (first [] h)
members_after old after (Some member) first less (piece ∷ members) h = (members, (first (piece ∷ members) h).1)

pub members_left : (old after : Parts) (given : Option Element) → Gives openers.Vector old given after → MatchOption given (after ≡ old) (λ element. part_bytes after < part_bytes old)
    → ∥ HoldsMembers old.at old.left.now ∥₁ → ∥ HoldsMembers after.at after.left.now ∥₁
members_left old after given first goes some = ∥∥₁_map some (λ h. members_after old after given first goes h.0 h.1)

-- what a view of a vector has left determines the view
same_view : (view : VectorView) (parts : Parts) → view.parts ≡ parts → (following : 0 < parts.at) (whole : ∥ HoldsMembers parts.at parts.left.now ∥₁) → record { parts = parts; following = following; whole = whole } ≡ view
same_view view parts same =
    let Same : Parts → Type 0 = λ p. (following : 0 < p.at) (whole : ∥ HoldsMembers p.at p.left.now ∥₁) → record { parts = p; following = following; whole = whole } ≡ view in
    subst Same same (λ following whole.
    ap (λ (b : 0 < view.parts.at). record { parts = view.parts; following = b; whole = whole }) (le_prop following view.following)
    ∙ ap (λ (w : ∥ HoldsMembers view.parts.at view.parts.left.now ∥₁). record { parts = view.parts; following = view.following; whole = w }) (squash₁ whole view.whole))

pub view_shrinks : (old after : VectorView) (given : Option Element) → MatchOption given (after.parts ≡ old.parts) (λ element. part_bytes after.parts < part_bytes old.parts)
    → MatchOption given (after ≡ old) (λ element. part_bytes after.parts < part_bytes old.parts)
view_shrinks old after None same = same_view old after.parts (sym same) after.following after.whole
view_shrinks old after (Some element) less = less
