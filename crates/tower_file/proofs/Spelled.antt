-- Elements that are spelled out: each is an element wherever its bytes are, if no run goes on after them.
use Rattle.std.proofs.Common.{◌≡◌, ℕ, zero, suc, Bool, true, false, cond, List, [], ◌∷◌, ◌++◌, refl, sym, subst}
use Rattle.edn_reader.specs.declared.bytes.ByteClass.TheVariants.{White, Plain, Opens, Closes}
use Rattle.edn_reader.specs.declared.bytes.Bracket.TheVariants.{Square, Curly}
use Rattle.edn_reader.specs.declared.element.ElementKind.{ElementKind}
use Rattle.edn_reader.specs.declared.element.ElementKind.TheVariants as kinds
use Rattle.edn_reader.specs.declared.token.Opener.TheVariants as openers
use Rattle.edn_reader.specs.declared.token.Token.TheVariants.{Opens as Opening}
use Rattle.edn_reader.specs.Bytes.{class_of, is_run, Ends}
use Rattle.edn_reader.specs.Grammar.{ElementModel, untagged, ended, more, IsWholeRun, IsToken, white, run, opening, close, nothing, skipped, IsElementAt, leaf, bracketed, IsElements, none, next, is_odd}
use Rattle.edn_reader.specs.Pairs.{HasPairs, HasMembers, in_turn}

-- room for so many more levels
abbrev pub deep : ℕ → ℕ → ℕ
deep zero room = room
deep (suc depth) room = suc (deep depth room)

-- the place after bytes
abbrev pub following : ℕ → List ℕ → ℕ
following place [] = place
following place (b ∷ bytes) = following (suc place) bytes

-- an element without tags
pub record Item : Type 0 where
  pub kind : ElementKind
  pub text : List ℕ

abbrev pub piece_at : ℕ → Item → ElementModel
piece_at place item = record { kind = item.kind; start = place; text = item.text; core = record { kind = item.kind; start = place } }

-- the bytes are this element wherever they are, with so many levels nested in it
abbrev pub Stands : ℕ → Item → Type 0
Stands depth item = (room place : ℕ) (rest : List ℕ) → Ends is_run rest
    → IsElementAt (deep depth room) item.kind (record { kind = item.kind; start = place }) place (item.text ++ rest) (following place item.text) rest

-- ---- the classes of bytes

space_is_white : class_of 32 ≡ White
unfolding class_of
space_is_white = refl

square_opens : class_of 91 ≡ Opens Square
unfolding class_of
square_opens = refl

square_closes : class_of 93 ≡ Closes Square
unfolding class_of
square_closes = refl

curly_opens : class_of 123 ≡ Opens Curly
unfolding class_of
curly_opens = refl

curly_closes : class_of 125 ≡ Closes Curly
unfolding class_of
curly_closes = refl

space_ends : is_run 32 ≡ false
unfolding class_of
space_ends = refl

pub square_ends : is_run 93 ≡ false
unfolding class_of
square_ends = refl

pub curly_ends : is_run 125 ≡ false
unfolding class_of
curly_ends = refl

-- ---- atoms

abbrev pub all_run : List ℕ → Bool
all_run [] = true
all_run (b ∷ bytes) = cond (is_run b) (all_run bytes) false

run_by : (b : ℕ) (bytes : List ℕ) (t : Bool) → is_run b ≡ t → cond t (all_run bytes) false ≡ true → (is_run b ≡ true) × (all_run bytes ≡ true)
run_by b bytes true e h = (e, h)
run_by b bytes false e h = absurd cc

run_on : (place : ℕ) (bytes rest : List ℕ) → all_run bytes ≡ true → Ends is_run rest → IsWholeRun place (bytes ++ rest) (following place bytes) rest
run_on place [] rest h e = ended e
run_on place (b ∷ bytes) rest h e =
    let k = run_by b bytes (is_run b) refl h in more k.0 (run_on (suc place) bytes rest k.1 e)

pub atom : (depth b : ℕ) (bytes : List ℕ) → class_of b ≡ Plain → all_run bytes ≡ true → Stands depth (record { kind = kinds.Atom; text = b ∷ bytes })
atom depth b bytes c h room place rest e = leaf (run c (run_on (suc place) bytes rest h e))

-- ---- elements one after another

abbrev pub All_stand : ℕ → List Item → Type 0
All_stand depth [] = Unit {0}
All_stand depth (item ∷ items) = Stands depth item × All_stand depth items

-- elements, each after a space
abbrev pub spaced : List Item → List ℕ → List ℕ
spaced [] rest = rest
spaced (item ∷ items) rest = 32 ∷ (item.text ++ spaced items rest)

abbrev pub spaced_after : ℕ → List Item → ℕ
spaced_after place [] = place
spaced_after place (item ∷ items) = spaced_after (following (suc place) item.text) items

abbrev pub spaced_pieces : ℕ → List Item → List ElementModel
spaced_pieces place [] = []
spaced_pieces place (item ∷ items) = piece_at (suc place) item ∷ spaced_pieces (following (suc place) item.text) items

spaced_ends : (items : List Item) (rest : List ℕ) → Ends is_run rest → Ends is_run (spaced items rest)
spaced_ends [] rest e = e
spaced_ends (item ∷ items) rest e = space_ends

on_spaced : (depth room place : ℕ) (items : List Item) (rest : List ℕ) → All_stand depth items → Ends is_run rest
    → IsElements (deep depth room) place (spaced items rest) (spaced_pieces place items) (spaced_after place items) rest
on_spaced depth room place [] rest h e = none
on_spaced depth room place (item ∷ items) rest h e =
    next {piece = piece_at (suc place) item} (skipped (white space_is_white) nothing) (h.0 room (suc place) (spaced items rest) (spaced_ends items rest e)) refl
    (on_spaced depth room (following (suc place) item.text) items rest h.1 e)

-- elements, all but the first after a space
abbrev pub inside : Item → List Item → List ℕ → List ℕ
inside first items rest = first.text ++ spaced items rest

abbrev pub inside_after : ℕ → Item → List Item → ℕ
inside_after place first items = spaced_after (following place first.text) items

abbrev pub inside_pieces : ℕ → Item → List Item → List ElementModel
inside_pieces place first items = piece_at place first ∷ spaced_pieces (following place first.text) items

pub on_inside : (depth room place : ℕ) (first : Item) (items : List Item) (rest : List ℕ) → All_stand depth (first ∷ items) → Ends is_run rest
    → IsElements (deep depth room) place (inside first items rest) (inside_pieces place first items) (inside_after place first items) rest
on_inside depth room place first items rest h e =
    next {piece = piece_at place first} nothing (h.0 room place (spaced items rest) (spaced_ends items rest e)) refl
    (on_spaced depth room (following place first.text) items rest h.1 e)

-- ---- brackets

pub vector : (depth : ℕ) (first : Item) (items : List Item) → All_stand depth (first ∷ items) → (room place : ℕ) (rest : List ℕ)
    → IsElementAt (suc (deep depth room)) kinds.Vector (record { kind = kinds.Vector; start = place }) place (91 ∷ inside first items (93 ∷ rest))
    (suc (inside_after (suc place) first items)) rest
vector depth first items h room place rest =
    bracketed {opener = openers.Vector} {bracket = Square} (opening {bracket = Square} square_opens) (on_inside depth room (suc place) first items (93 ∷ rest) h square_ends) nothing
    (close square_closes) refl refl

pub map_of : (depth : ℕ) (first : Item) (items : List Item) → All_stand depth (first ∷ items) → (room place : ℕ) (rest : List ℕ)
    → is_odd (inside_pieces (suc place) first items) ≡ false
    → IsElementAt (suc (deep depth room)) kinds.Map (record { kind = kinds.Map; start = place }) place (123 ∷ inside first items (125 ∷ rest))
    (suc (inside_after (suc place) first items)) rest
map_of depth first items h room place rest even =
    bracketed {opener = openers.Map} {bracket = Curly} (opening {bracket = Curly} curly_opens) (on_inside depth room (suc place) first items (125 ∷ rest) h curly_ends) nothing
    (close curly_closes) refl even

-- ---- the elements between brackets

pub members_of : (piece : ElementModel) (bytes : List ℕ) (members : List ElementModel) (ends : ℕ) → piece.core.kind ≡ kinds.Vector → (untagged piece).text ≡ 91 ∷ bytes
    → IsElements 63 (suc piece.core.start) bytes members ends (93 ∷ []) → HasMembers piece members
members_of piece bytes members ends kind text elements = record {
  kind = kind;
  inner = suc piece.core.start;
  left = bytes;
  opens = subst (λ (t : List ℕ). IsToken (Opening openers.Vector) piece.core.start t (suc piece.core.start) bytes) (sym text) (opening {bracket = Square} square_opens);
  inside = record {
    ends = ends;
    beyond = 93 ∷ [];
    begins = ends;
    following = 93 ∷ [];
    after = suc ends;
    bracket = Square;
    elements = elements;
    gap = nothing;
    close = close square_closes;
    closes = refl;
  };
}

pub pairs_of : (piece : ElementModel) (bytes : List ℕ) (pairs : List (ElementModel × ElementModel)) (ends : ℕ) → piece.core.kind ≡ kinds.Map → (untagged piece).text ≡ 123 ∷ bytes
    → IsElements 63 (suc piece.core.start) bytes (in_turn pairs) ends (125 ∷ []) → HasPairs piece pairs
pairs_of piece bytes pairs ends kind text elements = record {
  kind = kind;
  inner = suc piece.core.start;
  left = bytes;
  opens = subst (λ (t : List ℕ). IsToken (Opening openers.Map) piece.core.start t (suc piece.core.start) bytes) (sym text) (opening {bracket = Curly} curly_opens);
  inside = record {
    ends = ends;
    beyond = 125 ∷ [];
    begins = ends;
    following = 125 ∷ [];
    after = suc ends;
    bracket = Curly;
    elements = elements;
    gap = nothing;
    close = close curly_closes;
    closes = refl;
  };
}
