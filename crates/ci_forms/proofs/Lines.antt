-- What is printed of numbers, ids and faults has no line end.
use Rattle.std.proofs.Common.{◌≡◌, ◌∙◌, ℕ, zero, suc, ◌/◌, ◌%◌, ◌<◌, ◌&&◌, not, Bool, true, false, cond, eqb, List, [], ◌∷◌, ◌++◌, codes, decimal, length, refl, arith, mod-lt}
use Rattle.std.proofs.lemmas.Bool.{and_parts}
use Rattle.std.proofs.lemmas.Bool.Decides.{nat_tests}
use Rattle.std.proofs.lemmas.List.Folds.{list_all-append}
use Rattle.std.specs.Fmt.{digit_glyph, digits, digits_onto}
use Rattle.std.specs.List.{list_all}
use Rattle.intervals.specs.declared.claim.Holder.{Holder}
use Rattle.intervals.specs.declared.claim.Holder.TheVariants as holders
use Rattle.intervals.specs.declared.operation.OpId.{OpId}
use Rattle.register_book.specs.declared.fault.Fault.{Fault}
use Rattle.register_book.specs.declared.fault.Fault.TheVariants as faults
use Rattle.phrases.specs.Names.{id_text, place_text}
use Rattle.phrases.specs.Fault.{fault_text, holder_text}
use Rattle.ci_forms.specs.Bytes.{is_line}

-- a byte is no line end
abbrev pub is_within : ℕ → Bool
is_within b = not (eqb b 10)

-- a text has no line end
abbrev pub IsWithin : List ℕ → Type 0
IsWithin text = list_all is_within text ≡ true

-- two texts, one after the other
pub two : (xs ys : List ℕ) → IsWithin xs → IsWithin ys → IsWithin (xs ++ ys)
two xs ys one other = list_all-append is_within xs ys ∙ rw (one, other) refl

within_first : (b : ℕ) (rest : List ℕ) (ends : Bool) → not ends ≡ true → cond ends (eqb (length rest) 0) (is_line rest) ≡ is_line rest
within_first b rest true within = absurd cc
within_first b rest false within = refl

-- a line after a text without line ends is one line with it
pub line_after : (text rest : List ℕ) → IsWithin text → is_line (text ++ rest) ≡ is_line rest
line_after [] rest within = refl
line_after (b ∷ text) rest within =
    let parts = and_parts (is_within b) (list_all is_within text) within in
    within_first b (text ++ rest) (eqb b 10) parts.0 ∙ line_after text rest parts.1

-- numbers

glyph_within : (d : ℕ) → d < 10 → is_within (digit_glyph false d) ≡ true
glyph_within d small = grind (arith, nat_tests)

digit_within : (n : ℕ) → is_within (digit_glyph false (n % 10)) ≡ true
digit_within n = glyph_within (n % 10) (mod-lt n (omega arith))

either : (t : Bool) (xs ys : List ℕ) → IsWithin xs → IsWithin ys → IsWithin (cond t xs ys)
either true xs ys left right = left
either false xs ys left right = right

onto_within : (k n : ℕ) (acc : List ℕ) → IsWithin acc → IsWithin (digits_onto k 10 false n acc)
onto_within zero n acc is = is
onto_within (suc k) n acc is =
    let more : IsWithin (digit_glyph false (n % 10) ∷ acc) = rw (digit_within n, is) refl in
    either (eqb (n / 10) 0) _ _ more (onto_within k (n / 10) (digit_glyph false (n % 10) ∷ acc) more)

pub number_within : (n : ℕ) → IsWithin (decimal n)
unfolding digits
number_within n = onto_within 64 n [] refl

-- ids and faults

pub place_within : (feeder event : ℕ) → IsWithin (place_text feeder event)
place_within feeder event = two (decimal feeder ++ codes ":") (decimal event) (two (decimal feeder) (codes ":") (number_within feeder) refl) (number_within event)

id_within : (id : OpId) → IsWithin (id_text id)
id_within id = place_within id.feeder id.event

holder_within : (holder : Holder) → IsWithin (holder_text holder)
holder_within (holders.Op id) = id_within id
holder_within holders.Initial = refl

-- a word and an id
word_within : (word : List ℕ) (id : OpId) → IsWithin word → IsWithin (word ++ id_text id)
word_within word id is = two word (id_text id) is (id_within id)

pub fault_within : (fault : Fault) → IsWithin (fault_text fault)
fault_within (faults.Wrong read) = word_within (codes "wrong ") read refl
fault_within (faults.Unwritten read) = word_within (codes "unwritten ") read refl
fault_within (faults.Split first second) =
    word_within (codes "unwritten " ++ id_text first ++ codes " and ") second (two (codes "unwritten " ++ id_text first) (codes " and ") (word_within (codes "unwritten ") first refl) refl)
fault_within (faults.Early read write) =
    word_within (codes "early " ++ id_text read ++ codes " before ") write (two (codes "early " ++ id_text read) (codes " before ") (word_within (codes "early ") read refl) refl)
fault_within (faults.Crossing a b c d) =
    let first = two (codes "conflict ") (holder_text a) refl (holder_within a) in
    let second = two (codes "conflict " ++ holder_text a ++ codes " ") (holder_text b) (two (codes "conflict " ++ holder_text a) (codes " ") first refl) (holder_within b) in
    let third = two (codes "conflict " ++ holder_text a ++ codes " " ++ holder_text b ++ codes " ") (holder_text c) (two (codes "conflict " ++ holder_text a ++ codes " " ++ holder_text b) (codes " ") second refl) (holder_within c) in
    two (codes "conflict " ++ holder_text a ++ codes " " ++ holder_text b ++ codes " " ++ holder_text c ++ codes " ") (holder_text d)
    (two (codes "conflict " ++ holder_text a ++ codes " " ++ holder_text b ++ codes " " ++ holder_text c) (codes " ") third refl) (holder_within d)
