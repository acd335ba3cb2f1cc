-- The front of the moments of a picture.
use Rattle.std.proofs.Common.{◌≡◌, ◌∙◌, ◌<◌, ◌≤◌, ℕ, zero, suc, ◌+◌, ◌-◌, Bool, true, false, List, [], ◌∷◌, ◌++◌, length, map, min, drop, take, Option, Some, None, String, Global, slice_index_or, refl, sym, ap, subst, arith}
use Rattle.std.proofs.lemmas.Bool.{eq-eqb, eqb-true}
use Rattle.std.proofs.lemmas.Fmt.{IsAscii-decimal}
use Rattle.std.proofs.lemmas.List.{length-append, length-drop, length-take-le, take-append-drop}
use Rattle.std.proofs.lemmas.Option.{same_Some, slice_get-get_or, slice_get-map}
use Rattle.std.proofs.lemmas.Str.{IsCharBoundary-from_ascii}
use Rattle.std.specs.Fmt.{decimal}
use Rattle.std.specs.List.{slice_get}
use Rattle.std.specs.Prelude.{◌==◌, ◌^◌, All, option_map, string_bytes}
use Rattle.std.specs.Str.{IsCharBoundary}
use Rattle.timeline.specs.declared.axis.Mark.{Mark}
use Rattle.show.specs.Front.{GoesOnAfter, common_digits, common_to_all, cut_of, equal_digits, front_of}

-- digits may be cut anywhere
pub cut_anywhere : (text : List ℕ) (number at : ℕ) → number < 2 ^ 64 → text ≡ decimal number → at ≤ length text → IsCharBoundary text at
cut_anywhere text number at small is within = IsCharBoundary-from_ascii text at (rw is (IsAscii-decimal number small)) within

cut_common : (digits common : ℕ) → cut_of digits common ≤ common
cut_common digits common = grind arith

cut_worth : (digits common : ℕ) → 0 < cut_of digits common → cut_of digits common ≡ min common (digits - 1)
cut_worth digits common some = grind arith

pub cut_within : (digits common : ℕ) → cut_of digits common ≤ digits
cut_within digits common = grind arith

-- what is common to all is no more than the digits

pub common_within : (digits : List ℕ) (others : List (List ℕ)) → common_to_all digits others ≤ length digits
common_within digits [] = omega arith
common_within digits (other ∷ others) = let rest = common_within digits others in omega (arith, rest)

-- nothing is common with a text that is used up
pub none_left : (digits : List ℕ) → equal_digits digits [] ≡ 0
none_left [] = refl
none_left (digit ∷ digits) = refl

-- two texts begin with the digits that they have in common

alike_by : (digit other : ℕ) (digits others : List ℕ) (n : ℕ) (test : Bool) → (digit == other) ≡ test
    → (n ≤ equal_digits digits others → take n digits ≡ take n others)
    → suc n ≤ equal_digits (digit ∷ digits) (other ∷ others) → take (suc n) (digit ∷ digits) ≡ take (suc n) (other ∷ others)
alike_by digit other digits others n true is rest le =
    let more : suc n ≤ equal_digits digits others + 1 = rw is at le in
    ap (λ d. d ∷ take n digits) (eqb-true digit other is) ∙ ap (λ ds. other ∷ ds) (rest (omega (arith, more)))
alike_by digit other digits others n false is rest le = absurd (let none : suc n ≤ 0 = rw is at le in omega (arith, none))

alike : (n : ℕ) (one other : List ℕ) → n ≤ equal_digits one other → take n one ≡ take n other
alike zero one other le = refl
alike (suc n) [] other le = absurd (omega (arith, le))
alike (suc n) (digit ∷ digits) [] le = absurd (omega (arith, le))
alike (suc n) (digit ∷ digits) (other ∷ others) le = alike_by digit other digits others n (digit == other) refl (alike n digits others) le

alike_if : (n : ℕ) (one other : List ℕ) (test : Bool) → (length one == length other) ≡ test → n ≤ common_digits one other → take n one ≡ take n other
alike_if n one other true is le = alike n one other (rw is at le)
alike_if n one other false is le = let none : n ≡ 0 = (let no : n ≤ 0 = rw is at le in omega (arith, no)) in rw none refl

common_least : (digits : List ℕ) (others : List (List ℕ)) (number : ℕ) (other : List ℕ) → slice_get others number ≡ Some other → common_to_all digits others ≤ common_digits digits other
common_least digits [] number other is = absurd (cc)
common_least digits (first ∷ others) zero other is =
    let least : common_to_all digits (first ∷ others) ≤ common_digits digits first = omega arith in
    subst (λ (o : List ℕ). common_to_all digits (first ∷ others) ≤ common_digits digits o) (same_Some first other is) least
common_least digits (first ∷ others) (suc number) other is = let rest = common_least digits others number other is in omega (arith, rest)

common_most : (n : ℕ) (digits : List ℕ) (others : List (List ℕ)) → n ≤ length digits → ((k : ℕ) (d : List ℕ) → k < length others → n ≤ common_digits digits (slice_index_or others k d)) → n ≤ common_to_all digits others
common_most n digits [] long each = long
common_most n digits (other ∷ others) long each =
    let here = each 0 other (omega arith) in
    let rest = common_most n digits others long (λ k d lt. each (suc k) d (omega (arith, lt))) in
    omega (arith, here, rest)

-- texts of one length have at least the digits in common with which both begin

equal_most : (front one other : List ℕ) → length front ≤ equal_digits (front ++ one) (front ++ other)
equal_most [] one other = omega arith
equal_most (digit ∷ digits) one other = let rest = equal_most digits one other in rw (eq-eqb digit digit refl) (omega (arith, rest))

same_length : (one other : List ℕ) (test : Bool) → (length one == length other) ≡ test → 0 < common_digits one other → length one ≡ length other
same_length one other true is some = eqb-true (length one) (length other) is
same_length one other false is some = absurd (let none : 0 < 0 = rw is at some in omega (arith, none))

common_front : (front one other : List ℕ) → GoesOnAfter front one → GoesOnAfter front other → length one ≡ length other → length front ≤ common_digits one other
common_front front one other (rest, some, is) (rest_too, some_too, is_too) same =
    let most : length front ≤ equal_digits one other = rw (is, is_too) (equal_most front rest rest_too) in
    rw (eq-eqb (length one) (length other) same) most

-- the front of moments, by the first of them

module _ (first : List ℕ) (others : List (List ℕ)) where
  abbrev all : List (List ℕ)
  all = first ∷ others

  abbrev common : ℕ
  common = common_to_all first all

  abbrev cut : ℕ
  cut = cut_of (length first) common

  front_long : length (front_of all) ≡ cut
  front_long = length-take-le cut first (cut_within (length first) common)

  among : (number : ℕ) (moment : List ℕ) → slice_get all number ≡ Some moment → cut ≤ common_digits first moment
  among number moment is = let least = common_least first all number moment is in let no_more = cut_common (length first) common in omega (arith, least, no_more)

  pub joined : (number : ℕ) (moment : List ℕ) → slice_get all number ≡ Some moment → front_of all ++ drop (length (front_of all)) moment ≡ moment
  joined number moment is =
      let begins : take cut first ≡ take cut moment = alike_if cut first moment (length first == length moment) refl (among number moment is) in
      rw (front_long, begins) (take-append-drop cut moment)

  goes_on : 0 < cut → (number : ℕ) (moment : List ℕ) → slice_get all number ≡ Some moment → GoesOnAfter (front_of all) moment
  goes_on some number moment is =
      let least = among number moment is in
      let same = same_length first moment (length first == length moment) refl (omega (arith, some, least)) in
      let worth = cut_worth (length first) common some in
      let long = length-drop (length (front_of all)) moment in
      (drop (length (front_of all)) moment, omega (arith, long, front_long, same, worth, some), sym (joined number moment is))

  pub each_goes_on : 0 < length (front_of all) → All (GoesOnAfter (front_of all)) all
  each_goes_on some k d lt = goes_on (rw front_long at some) k (slice_index_or all k d) (slice_get-get_or all k d lt)

  pub longest : (front : List ℕ) → 0 < length (front_of all) → All (GoesOnAfter front) all → length front ≤ length (front_of all)
  longest front some each =
      let worth = cut_worth (length first) common (rw front_long at some) in
      let (rest, more, is) = each 0 first (omega arith) in
      let long : length first ≡ length front + length rest = ap length is ∙ length-append front rest in
      let most : length front ≤ common = common_most (length front) first all (omega (arith, long)) (λ k d lt.
      let least = among k (slice_index_or all k d) (slice_get-get_or all k d lt) in
      common_front front first (slice_index_or all k d) (rest, more, is) (each k d lt) (same_length first (slice_index_or all k d) (length first == length (slice_index_or all k d)) refl (omega (arith, some, front_long, least)))) in
      omega (arith, front_long, worth, long, more, most)

pub moments_joined : (moments : List (List ℕ)) (moment : List ℕ) (number : ℕ) → slice_get moments number ≡ Some moment → front_of moments ++ drop (length (front_of moments)) moment ≡ moment
moments_joined [] moment number is = absurd (cc)
moments_joined (first ∷ others) moment number is = joined first others number moment is

pub all_go_on : (moments : List (List ℕ)) → 0 < length (front_of moments) → All (GoesOnAfter (front_of moments)) moments
all_go_on [] some = absurd (omega (arith, some))
all_go_on (first ∷ others) some = each_goes_on first others some

pub longest_of : (moments : List (List ℕ)) (front : List ℕ) → 0 < length (front_of moments) → All (GoesOnAfter front) moments → length front ≤ length (front_of moments)
longest_of [] front some each = absurd (omega (arith, some))
longest_of (first ∷ others) front some each = longest first others front some each

-- the labels of marks

some_of : {X Y : Type 0} (f : X → Y) (found : Option X) (y : Y) → option_map f found ≡ Some y → (x : X) × (found ≡ Some x) × (f x ≡ y)
some_of f None y is = absurd (cc)
some_of f (Some x) y is = (x, refl, same_Some (f x) y is)

abbrev printed : Mark → List ℕ
printed mark = decimal mark.moment.0

abbrev bytes : String Global → List ℕ
bytes label = string_bytes label

pub labelled : (marks : List Mark) (front : String Global) (labels : List (String Global)) → bytes front ≡ front_of (map printed marks) → map bytes labels ≡ map (λ mark. drop (length (bytes front)) (printed mark)) marks
    → (number : ℕ) (mark : Mark) → slice_get marks number ≡ Some mark → (label : String Global) × (slice_get labels number ≡ Some label) × (bytes front ++ bytes label ≡ printed mark)
labelled marks front labels is_front are_labels number mark at =
    let left : Mark → List ℕ = λ mark. drop (length (bytes front)) (printed mark) in
    let moment : slice_get (map printed marks) number ≡ Some (printed mark) = slice_get-map printed marks number ∙ ap (option_map printed) at in
    let text : option_map bytes (slice_get labels number) ≡ Some (left mark) =
    sym (slice_get-map bytes labels number) ∙ ap (λ (texts : List (List ℕ)). slice_get texts number) are_labels ∙ slice_get-map left marks number ∙ ap (option_map left) at in
    let (label, found, is) = some_of bytes (slice_get labels number) (left mark) text in
    let joins : bytes front ++ left mark ≡ printed mark =
    subst (λ (digits : List ℕ). digits ++ drop (length digits) (printed mark) ≡ printed mark) (sym is_front) (moments_joined (map printed marks) (printed mark) number moment) in
    (label, found, ap (λ rest. bytes front ++ rest) is ∙ joins)
