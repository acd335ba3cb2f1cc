-- Places that are spaced, kept and tight still are when that of one more mark is put after them.
use Rattle.std.proofs.Common.{◌≡◌, ◌≢◌, ◌∙◌, ◌≤◌, ◌<◌, ◌⊎◌, inl, inr, ℕ, zero, suc, ◌+◌, ◌-◌, List, [], ◌∷◌, ◌++◌, length, get_or, max, refl, sym, ap, subst, arith}
use Rattle.std.proofs.lemmas.Bool.{cases_lt}
use Rattle.std.proofs.lemmas.List.{get_or_default}
use Rattle.std.proofs.lemmas.List.Sorted.{Contains-permutation}
use Rattle.std.specs.Prelude.{All, Any, IsPermutation, slice_index}
use Rattle.std.specs.List.{AllWithin}
use Rattle.std.specs.List.Sorted.{IsNonDecreasing, IsNonDecreasingBy}
use Rattle.timeline.specs.declared.place.Want.{Want}
use Rattle.timeline.specs.Place.{AreSpaced, AreBounded, AreTight, IsBounded, IsDistanceKept, IsPutBefore, IsPutBy, IsReason, IsWithin, before, wanted_by}

-- which place is at an index of a list with one more at the end

old_place : (places : List ℕ) (place number : ℕ) → number < length places → slice_index (places ++ place ∷ []) number ≡ slice_index places number
old_place [] place number within = absurd (omega arith)
old_place (p ∷ places) place zero within = refl
old_place (p ∷ places) place (suc number) within = old_place places place number (omega (arith, within))

new_place : (places : List ℕ) (place number : ℕ) → number ≡ length places → slice_index (places ++ place ∷ []) number ≡ place
new_place [] place zero is = refl
new_place [] place (suc number) is = absurd (omega (arith, is))
new_place (p ∷ places) place zero is = absurd (omega (arith, is))
new_place (p ∷ places) place (suc number) is = new_place places place number (omega (arith, is))

many_more : (places : List ℕ) (place : ℕ) → length (places ++ place ∷ []) ≡ length places + 1
many_more [] place = refl
many_more (p ∷ places) place = omega (arith, many_more places place)

before_same : (places : List ℕ) (place number : ℕ) → number ≤ length places → before (places ++ place ∷ []) number ≡ before places number
before_same places place zero within = refl
before_same places place (suc number) within = old_place places place number (omega (arith, within))

module _ (steps places : List ℕ) (wants : List Want) (number place : ℕ) (here : number ≡ length places) where
  pub apart_more : AreSpaced steps places → before places number + slice_index steps number ≤ place → AreSpaced steps (places ++ place ∷ [])
  apart_more apart following n within = by_cases (cases_lt n number)
    where
      by_cases : (n < number) ⊎ (number ≤ n) → before (places ++ place ∷ []) n + slice_index steps n ≤ slice_index (places ++ place ∷ []) n
      by_cases (inl lt) =
          let old : n < length places = omega (arith, lt, here) in
          rw (before_same places place n (omega (arith, old)), old_place places place n old) (apart n old)
      by_cases (inr le) =
          let same : n ≡ number = omega (arith, le, within, many_more places place, here) in
          rw (before_same places place n (omega (arith, same, here)), new_place places place n (same ∙ here)) (subst (λ (k : ℕ). before places k + slice_index steps k ≤ place) (sym same) following)

  pub bounded_more : AreBounded places → IsBounded number place → AreBounded (places ++ place ∷ [])
  bounded_more bounded now n within = by_cases (cases_lt n number)
    where
      by_cases : (n < number) ⊎ (number ≤ n) → IsBounded n (slice_index (places ++ place ∷ []) n)
      by_cases (inl lt) =
          let old : n < length places = omega (arith, lt, here) in
          rw (old_place places place n old) (bounded n old)
      by_cases (inr le) =
          let same : n ≡ number = omega (arith, le, within, many_more places place, here) in
          rw (new_place places place n (same ∙ here)) (subst (λ (k : ℕ). IsBounded k place) (sym same) now)

  -- a want that was a reason for a place still is
  pub reason_stays : (n : ℕ) (want : Want) → n < number → want.from < number → IsReason places n want → IsReason (places ++ place ∷ []) n want
  reason_stays n want lt from is = (is.0, rw (old_place places place want.from (omega (arith, from, here)), old_place places place n (omega (arith, lt, here))) is.1)

  pub kept_stays : (want : Want) → want.from < number → want.to < number → IsDistanceKept places want → IsDistanceKept (places ++ place ∷ []) want
  kept_stays want from to is = rw (old_place places place want.from (omega (arith, from, here)), old_place places place want.to (omega (arith, to, here))) is

  pub kept_now : (want : Want) → want.from < number → want.to ≡ number → wanted_by places want ≤ place → IsDistanceKept (places ++ place ∷ []) want
  kept_now want from to is = rw (old_place places place want.from (omega (arith, from, here)), new_place places place want.to (to ∙ here)) is

  pub reason_now : (want : Want) → want.from < number → want.to ≡ number → wanted_by places want ≡ place → IsReason (places ++ place ∷ []) number want
  reason_now want from to is = (to, rw (old_place places place want.from (omega (arith, from, here)), new_place places place number here) is)

-- a mark with a greater number is further right

rises_by : (steps places : List ℕ) (i d : ℕ) → AreSpaced steps places → All (λ (step : ℕ). 0 < step) steps → length places ≡ length steps → i + suc d < length places → slice_index places i < slice_index places (i + suc d)
rises_by steps places i zero apart positive many within =
    let next : i + 1 ≡ suc i = omega arith in
    let here = apart (suc i) (omega (arith, within)) in
    let step : 0 < slice_index steps (suc i) = positive (suc i) 0 (omega (arith, within, many)) in
    subst (λ (n : ℕ). slice_index places i < slice_index places n) (sym next) (omega (arith, here, step))
rises_by steps places i (suc d) apart positive many within =
    let rest = rises_by steps places i d apart positive many (omega (arith, within)) in
    let next : i + suc (suc d) ≡ suc (i + suc d) = omega arith in
    let here = apart (suc (i + suc d)) (omega (arith, within)) in
    subst (λ (n : ℕ). slice_index places i < slice_index places n) (sym next) (omega (arith, here, rest))

rise_by : (steps places : List ℕ) (i d e : ℕ) → AreSpaced steps places → i + e < length places → e ≡ d → slice_index places i ≤ slice_index places (i + e)
rise_by steps places i zero e apart within is =
    let same : i ≡ i + e = omega (arith, is) in
    subst (λ (n : ℕ). slice_index places i ≤ slice_index places n) same (omega arith)
rise_by steps places i (suc d) e apart within is =
    let rest = rise_by steps places i d d apart (omega (arith, within, is)) refl in
    let next : suc (i + d) ≡ i + e = omega (arith, is) in
    let here = apart (suc (i + d)) (omega (arith, within, is)) in
    subst (λ (n : ℕ). slice_index places i ≤ slice_index places n) next (omega (arith, here, rest))

-- places rise
pub places_rise : (steps places : List ℕ) → AreSpaced steps places → IsNonDecreasing places
places_rise steps places apart i j d le within =
    let same : i + (j - i) ≡ j = omega (arith, le) in
    let inside : i < length places = omega (arith, le, within) in
    let rises = subst (λ (n : ℕ). slice_index places i ≤ slice_index places n) same (rise_by steps places i (j - i) (j - i) apart (omega (arith, le, within)) refl) in
    subst (λ (n : ℕ). n ≤ get_or places j d) (get_or_default places i 0 d inside) (subst (λ (n : ℕ). slice_index places i ≤ n) (get_or_default places j 0 d within) rises)

pub present_right : (steps places : List ℕ) (i j : ℕ) → AreSpaced steps places → All (λ (step : ℕ). 0 < step) steps → length places ≡ length steps → i < j → j < length places → slice_index places i < slice_index places j
present_right steps places i j apart positive many lt within =
    let d = j - suc i in
    let same : i + suc d ≡ j = omega (arith, lt) in
    subst (λ (n : ℕ). slice_index places i < slice_index places n) same (rises_by steps places i d apart positive many (omega (arith, within, same)))

-- the order of the wants does not matter

any_moved : (P : Want → Type 0) (xs ys : List Want) → IsPermutation xs ys → Any P xs → Any P ys
any_moved P xs ys moved (k, want, within, is, holds) =
    let (n, inside, at) = Contains-permutation xs ys want moved (k, within, is) in
    (n, want, inside, at, holds)

pub tight_moved : (steps places : List ℕ) (xs ys : List Want) → IsPermutation xs ys → AreTight steps xs places → AreTight steps ys places
tight_moved steps places xs ys moved tight number within = by_cases (tight number within)
  where
    by_cases : (before places number + slice_index steps number ≡ slice_index places number) ⊎ Any (IsReason places number) xs → (before places number + slice_index steps number ≡ slice_index places number) ⊎ Any (IsReason places number) ys
    by_cases (inl step) = inl step
    by_cases (inr reason) = inr (any_moved (IsReason places number) xs ys moved reason)

-- wants in order whose first is for a later mark than this are all for later ones
pub later_ones : (wants : List Want) (mark end : ℕ) (none : Want) → IsNonDecreasingBy (λ (want : Want). want.to) wants → end < length wants → mark ≤ (get_or wants end none).to → (get_or wants end none).to ≢ mark
    → AllWithin (λ (want : Want). mark < want.to) wants end (length wants)
later_ones wants mark end none sorted within le other k d low high =
    let same : (get_or wants end none).to ≡ (get_or wants end d).to = ap (λ (want : Want). want.to) (get_or_default wants end none d within) in
    omega (arith, same, sorted end k d low high, le, other)

-- the place with one more want

pub put_before_more : (places : List ℕ) (wants : List Want) (from number place next : ℕ) (none : Want) → place ≤ next → wanted_by places (get_or wants number none) ≤ next → number < length wants
    → AllWithin (IsPutBefore places place) wants from number → AllWithin (IsPutBefore places next) wants from (number + 1)
put_before_more places wants from number place next none rises here within before k d low high = by_cases (cases_lt k number)
  where
    by_cases : (k < number) ⊎ (number ≤ k) → wanted_by places (get_or wants k d) ≤ next
    by_cases (inl lt) = omega (arith, before k d low lt, rises)
    by_cases (inr le) =
        let same : number ≡ k = omega (arith, le, high) in
        subst (λ (n : ℕ). wanted_by places (get_or wants n d) ≤ next) same (subst (λ (want : Want). wanted_by places want ≤ next) (get_or_default wants number none d within) here)

pub put_by_more : (places : List ℕ) (wants : List Want) (from number least place next wanted : ℕ) (none : Want) → from ≤ number → wanted ≡ wanted_by places (get_or wants number none) → number < length wants
    → (next ≡ place) ⊎ (next ≡ wanted) → (place ≡ least) ⊎ IsPutBy places wants from number place → (next ≡ least) ⊎ IsPutBy places wants from (number + 1) next
put_by_more places wants from number least place next wanted none following is within (inl old) (inl first) = inl (old ∙ first)
put_by_more places wants from number least place next wanted none following is within (inl old) (inr by) = inr (record {
  number = by.number;
  following = by.following;
  before = omega (arith, by.before);
  puts = λ d. by.puts d ∙ sym old;
})
put_by_more places wants from number least place next wanted none following is within (inr new) tight = inr (record {
  number = number;
  following = following;
  before = omega arith;
  puts = λ d. ap (wanted_by places) (get_or_default wants number d none within) ∙ sym is ∙ sym new;
})

pub max_cases : (a b next : ℕ) → next ≡ max a b → (next ≡ a) ⊎ (next ≡ b)
max_cases a b next is = by_cases (cases_lt a b)
  where
    by_cases : (a < b) ⊎ (b ≤ a) → (next ≡ a) ⊎ (next ≡ b)
    by_cases (inl lt) = inr (omega (arith, is, lt))
    by_cases (inr le) = inl (omega (arith, is, le))

pub tight_by : (places slice : List ℕ) (wants : List Want) (next end place least step : ℕ) → slice ≡ places → least ≡ step → (place ≡ least) ⊎ IsPutBy slice wants next end place → (place ≡ step) ⊎ IsPutBy places wants next end place
tight_by places slice wants next end place least step is least_is (inl first) = inl (first ∙ least_is)
tight_by places slice wants next end place least step is least_is (inr by) = inr (subst (λ (ps : List ℕ). IsPutBy ps wants next end place) is by)

-- the places of the marks before this number, with the wants for them and those that are left
pub record ArePlaced (steps places : List ℕ) (wants : List Want) (number next : ℕ) : Type 0 where
  pub many : length places ≡ number
  pub bounded : AreBounded places
  pub apart : AreSpaced steps places
  pub tight : AreTight steps wants places
  pub done : AllWithin (λ (want : Want). want.to < number) wants 0 next
  pub kept : AllWithin (IsDistanceKept places) wants 0 next
  pub left : AllWithin (λ (want : Want). number ≤ want.to) wants next (length wants)

module _ (steps places : List ℕ) (wants : List Want) (number next end place : ℕ) (none : Want) (placed : ArePlaced steps places wants number next) (within : All (IsWithin steps) wants)
    (order : (next ≤ end) × (end ≤ length wants)) (for_it : AllWithin (λ (want : Want). want.to ≡ number) wants next end) where
  here : number ≡ length places
  here = sym placed.many

  from_before : (k : ℕ) (d : Want) → k < end → (get_or wants k d).from < (get_or wants k d).to
  from_before k d lt = (within k d (omega (arith, lt, order.1))).0

  done_more : AllWithin (λ (want : Want). want.to < number + 1) wants 0 end
  done_more k d low high = by_cases (cases_lt k next)
    where
      by_cases : (k < next) ⊎ (next ≤ k) → (get_or wants k d).to < number + 1
      by_cases (inl lt) = omega (arith, placed.done k d low lt)
      by_cases (inr le) = omega (arith, for_it k d le high)

  kept_more : AllWithin (IsPutBefore places place) wants next end → AllWithin (IsDistanceKept (places ++ place ∷ [])) wants 0 end
  kept_more put k d low high = by_cases (cases_lt k next)
    where
      by_cases : (k < next) ⊎ (next ≤ k) → IsDistanceKept (places ++ place ∷ []) (get_or wants k d)
      by_cases (inl lt) =
          let to : (get_or wants k d).to < number = placed.done k d low lt in
          kept_stays steps places wants number place here (get_or wants k d) (omega (arith, from_before k d high, to)) to (placed.kept k d low lt)
      by_cases (inr le) =
          let to : (get_or wants k d).to ≡ number = for_it k d le high in
          kept_now steps places wants number place here (get_or wants k d) (omega (arith, from_before k d high, to)) to (put k d le high)

  tight_before : (n : ℕ) → n < number → (before places n + slice_index steps n ≡ slice_index places n) ⊎ Any (IsReason places n) wants
      → (before (places ++ place ∷ []) n + slice_index steps n ≡ slice_index (places ++ place ∷ []) n) ⊎ Any (IsReason (places ++ place ∷ []) n) wants
  tight_before n lt (inl step) = inl (rw (before_same places place n (omega (arith, lt, here)), old_place places place n (omega (arith, lt, here))) step)
  tight_before n lt (inr (k, want, inside, is, reason)) =
      let from : (get_or wants k want).from < (get_or wants k want).to = (within k want inside).0 in
      let before_it : want.from < want.to = subst (λ (w : Want). w.from < w.to) is from in
      inr (k, want, inside, is, reason_stays steps places wants number place here n want lt (omega (arith, before_it, reason.0, lt)) reason)

  tight_here : (place ≡ before places number + slice_index steps number) ⊎ IsPutBy places wants next end place
      → (before (places ++ place ∷ []) number + slice_index steps number ≡ slice_index (places ++ place ∷ []) number) ⊎ Any (IsReason (places ++ place ∷ []) number) wants
  tight_here (inl step) = inl (rw (before_same places place number (omega (arith, here)), new_place places place number here) (sym step))
  tight_here (inr by) =
      let want = get_or wants by.number none in
      let inside : by.number < length wants = omega (arith, by.before, order.1) in
      let to : want.to ≡ number = for_it by.number none by.following by.before in
      inr (by.number, want, inside, get_or_default wants by.number want none inside, reason_now steps places wants number place here want (omega (arith, from_before by.number none by.before, to)) to (by.puts none))

  tight_more : (place ≡ before places number + slice_index steps number) ⊎ IsPutBy places wants next end place → AreTight steps wants (places ++ place ∷ [])
  tight_more by n inside = by_cases (cases_lt n number)
    where
      by_cases : (n < number) ⊎ (number ≤ n) → (before (places ++ place ∷ []) n + slice_index steps n ≡ slice_index (places ++ place ∷ []) n) ⊎ Any (IsReason (places ++ place ∷ []) n) wants
      by_cases (inl lt) = tight_before n lt (placed.tight n (omega (arith, lt, here)))
      by_cases (inr le) =
          let same : number ≡ n = omega (arith, le, inside, many_more places place, here) in
          subst (λ (m : ℕ). (before (places ++ place ∷ []) m + slice_index steps m ≡ slice_index (places ++ place ∷ []) m) ⊎ Any (IsReason (places ++ place ∷ []) m) wants) same (tight_here by)

  pub placed_more : (new : List ℕ) → new ≡ places ++ place ∷ [] → IsBounded number place → before places number + slice_index steps number ≤ place → AllWithin (IsPutBefore places place) wants next end
      → (place ≡ before places number + slice_index steps number) ⊎ IsPutBy places wants next end place → AllWithin (λ (want : Want). number < want.to) wants end (length wants) → ArePlaced steps new wants (number + 1) end
  placed_more new pushed bounded following put tight later = subst (λ (ps : List ℕ). ArePlaced steps ps wants (number + 1) end) (sym pushed) (record {
    many = omega (arith, many_more places place, here);
    bounded = bounded_more steps places wants number place here placed.bounded bounded;
    apart = apart_more steps places wants number place here placed.apart following;
    tight = tight_more tight;
    done = done_more;
    kept = kept_more put;
    left = λ k d low high. omega (arith, later k d low high);
  })
