-- How many of the moments come before each mark; all are counted once.
use Rattle.std.proofs.Common.{◌≡◌, ◌≤◌, ◌<◌, ◌⊎◌, inl, inr, ℕ, zero, suc, ◌+◌, ◌-◌, Bool, true, false, List, [], ◌∷◌, length, get_or, Some, refl, ap, subst, arith}
use Rattle.std.proofs.lemmas.Bool.{cases_lt, lt-ltb, ltb-true}
use Rattle.std.proofs.lemmas.List.Sums.{sum_by-cons}
use Rattle.std.proofs.lemmas.Option.{get_or_from_slice_get, slice_get_within}
use Rattle.std.specs.Prelude.{IsSorted, filter, nat_lt, sum}
use Rattle.std.specs.List.{AllWithin, slice_get}
use Rattle.std.specs.List.Sorted.{IsNonDecreasingBy, IsPartitionedBy}
use Rattle.std.specs.Ordering.{bool_cmp, is_lt, nat_cmp, ordering_then}
use Rattle.intervals.specs.declared.operation.Moment.{Moment}
use Rattle.timeline.specs.declared.axis.Mark.{Mark}
use Rattle.timeline.specs.Axis.{began, folded_of, mark_cmp}
use Rattle.timeline.proofs.InOrder.{earlier}

-- where all elements that pass come first, their number is the index of the first that does not pass
pub passing : {X : Type 0} (p : X → Bool) (xs : List X) (n : ℕ) → n ≤ length xs → AllWithin (λ x. p x ≡ true) xs 0 n → AllWithin (λ x. p x ≡ false) xs n (length xs) → length (filter p xs) ≡ n
passing p [] n le front back = omega (arith, le)
passing p (x ∷ xs) zero le front back =
    let here : p x ≡ false = back zero x (omega arith) (omega arith) in
    rw here (passing p xs zero (omega arith) (λ k d low high. absurd (omega (arith, high))) (λ k d low high. back (suc k) d (omega arith) (omega (arith, high))))
passing p (x ∷ xs) (suc n) le front back =
    let here : p x ≡ true = front zero x (omega arith) (omega arith) in
    let rest = passing p xs n (omega (arith, le)) (λ k d low high. front (suc k) d (omega arith) (omega (arith, high))) (λ k d low high. back (suc k) d (omega (arith, low)) (omega (arith, high))) in
    rw here (ap suc rest)

-- no fewer moments come before a later moment

weaker : (moment a b : ℕ) → a ≤ b → nat_lt moment a ≡ true → nat_lt moment b ≡ true
weaker moment a b le is = lt-ltb moment b (omega (arith, le, ltb-true moment a is))

rises_by : (moments : List Moment) (a b : Moment) (m : Moment) (x y : Bool) → nat_lt m.0 a.0 ≡ x → nat_lt m.0 b.0 ≡ y → a.0 ≤ b.0 → began moments a ≤ began moments b → began (m ∷ moments) a ≤ began (m ∷ moments) b
rises_by moments a b m true true is_a is_b le rest = rw (is_a, is_b) (omega (arith, rest))
rises_by moments a b m true false is_a is_b le rest = absurd (let later = weaker m.0 a.0 b.0 le is_a in cc)
rises_by moments a b m false true is_a is_b le rest = rw (is_a, is_b) (omega (arith, rest))
rises_by moments a b m false false is_a is_b le rest = rw (is_a, is_b) rest

pub began_rises : (moments : List Moment) (a b : Moment) → a.0 ≤ b.0 → began moments a ≤ began moments b
began_rises [] a b le = omega arith
began_rises (m ∷ moments) a b le = rises_by moments a b m (nat_lt m.0 a.0) (nat_lt m.0 b.0) refl refl le (began_rises moments a b le)

within_by : (moments : List Moment) (a m : Moment) (x : Bool) → nat_lt m.0 a.0 ≡ x → began moments a ≤ length moments → began (m ∷ moments) a ≤ length (m ∷ moments)
within_by moments a m true is rest = rw is (omega (arith, rest))
within_by moments a m false is rest = rw is (omega (arith, rest))

pub began_within : (moments : List Moment) (a : Moment) → began moments a ≤ length moments
began_within [] a = omega arith
began_within (m ∷ moments) a = within_by moments a m (nat_lt m.0 a.0) refl (began_within moments a)

-- in a list in order the moments before a given one come first
pub parted : (moments : List Moment) (moment : Moment) → IsNonDecreasingBy (λ (m : Moment). m.0) moments → IsPartitionedBy (λ (m : Moment). nat_lt m.0 moment.0) moments
parted moments moment sorted i j d le within later = lt-ltb (get_or moments i d).0 moment.0 (omega (arith, sorted i j d le within, ltb-true (get_or moments j d).0 moment.0 later))

-- all moments are counted once

abbrev pub Rise : ℕ → List Mark → List Moment → Type 0
Rise before [] moments = before ≤ length moments
Rise before (mark ∷ marks) moments = (before ≤ began moments mark.moment) × Rise (began moments mark.moment) marks moments

pub counted : (before : ℕ) (marks : List Mark) (moments : List Moment) → Rise before marks moments → sum (folded_of before marks moments) + before ≡ length moments
counted before [] moments rise = omega (arith, rise)
counted before (mark ∷ marks) moments rise =
    let rest = counted (began moments mark.moment) marks moments rise.1 in
    let step : sum (folded_of before (mark ∷ marks) moments) ≡ (began moments mark.moment - before) + sum (folded_of (began moments mark.moment) marks moments) = sum_by-cons (λ (n : ℕ). n) (began moments mark.moment - before) (folded_of (began moments mark.moment) marks moments) in
    omega (arith, rise.0, rest, step)

-- the moments of marks in order rise

not_earlier : (a b : Mark) → is_lt (mark_cmp b a) ≡ false → a.moment.0 ≤ b.moment.0
not_earlier a b is = by_cases (cases_lt b.moment.0 a.moment.0)
  where
    by_cases : (b.moment.0 < a.moment.0) ⊎ (a.moment.0 ≤ b.moment.0) → a.moment.0 ≤ b.moment.0
    by_cases (inl lt) = absurd (let less = earlier b.moment.0 a.moment.0 lt (ordering_then (bool_cmp b.is_end a.is_end) (nat_cmp b.op a.op)) in cc)
    by_cases (inr le) = le

pub rise : (before : ℕ) (marks : List Mark) (moments : List Moment) → IsSorted mark_cmp marks → before ≤ length moments → ((first : Mark) → slice_get marks 0 ≡ Some first → before ≤ began moments first.moment) → Rise before marks moments
rise before [] moments sorted within first = within
rise before (mark ∷ marks) moments sorted within first = (first mark refl, rise (began moments mark.moment) marks moments later (began_within moments mark.moment) next)
  where
    later : IsSorted mark_cmp marks
    later k d low high =
        let next : suc k + 1 ≡ suc (k + 1) = omega arith in
        subst (λ (n : ℕ). is_lt (mark_cmp (get_or (mark ∷ marks) n d) (get_or marks k d)) ≡ false) next (sorted (suc k) d (omega arith) (omega (arith, high)))

    next : (second : Mark) → slice_get marks 0 ≡ Some second → began moments mark.moment ≤ began moments second.moment
    next second is =
        let more : 0 < length marks = slice_get_within marks 0 second is in
        let here = sorted 0 mark (omega arith) (omega (arith, more)) in
        began_rises moments mark.moment second.moment (not_earlier mark second (subst (λ (m : Mark). is_lt (mark_cmp m mark) ≡ false) (get_or_from_slice_get marks 0 second mark is) here))

-- each operation that is left out is counted
pub all_counted : (marks : List Mark) (moments : List Moment) → IsSorted mark_cmp marks → sum (folded_of 0 marks moments) ≡ length moments
all_counted marks moments sorted =
    let all = counted 0 marks moments (rise 0 marks moments sorted (omega arith) (λ first is. omega arith)) in
    omega (arith, all)
