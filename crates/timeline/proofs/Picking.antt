-- The elements that are picked of a list in order are in order.
use Rattle.std.proofs.Common.{◌≤◌, ℕ, zero, suc, ◌+◌, Bool, true, false, List, [], ◌∷◌, map, arith}
use Rattle.std.proofs.lemmas.List.Elements.{All-cons, All-map, All-nil}
use Rattle.std.specs.Prelude.{All, if◌then◌else◌}
use Rattle.std.specs.List.Sorted.{IsNonDecreasingBy}
use Rattle.intervals.specs.declared.operation.Op.{Op}
use Rattle.intervals.specs.declared.operation.Moment.{Moment}
use Rattle.timeline.specs.Choice.{picked}

module _ {X : Type 0} (n : X → ℕ) where
  no_less : (x : X) (xs : List X) → IsNonDecreasingBy n (x ∷ xs) → All (λ y. n x ≤ n y) xs
  no_less x xs rises k d lt = rises 0 (suc k) d (omega arith) (omega (arith, lt))

  rest_rises : (x : X) (xs : List X) → IsNonDecreasingBy n (x ∷ xs) → IsNonDecreasingBy n xs
  rest_rises x xs rises i j d le lt = rises (suc i) (suc j) d (omega (arith, le)) (omega (arith, lt))

  pub rises_before : (x : X) (xs : List X) → All (λ y. n x ≤ n y) xs → IsNonDecreasingBy n xs → IsNonDecreasingBy n (x ∷ xs)
  rises_before x xs least rises zero zero d le lt = omega arith
  rises_before x xs least rises zero (suc j) d le lt = least j d (omega (arith, lt))
  rises_before x xs least rises (suc i) zero d le lt = absurd (omega (arith, le))
  rises_before x xs least rises (suc i) (suc j) d le lt = rises i j d (omega (arith, le)) (omega (arith, lt))

  all_if : (P : X → Type 0) (test : Bool) (x : X) (xs : List X) → P x → All P xs → All P (if test then x ∷ xs else xs)
  all_if P true x xs holds all = All-cons P x xs holds all
  all_if P false x xs holds all = all

  all_picked : (P : X → Type 0) (passes : ℕ → Bool) (place : ℕ) (xs : List X) → All P xs → All P (picked passes place xs)
  all_picked P passes place [] all = All-nil P
  all_picked P passes place (x ∷ xs) all =
      all_if P (passes place) x (picked passes (place + 1) xs) (all 0 x (omega arith)) (all_picked P passes (place + 1) xs (λ k d lt. all (suc k) d (omega (arith, lt))))

  rises_if : (test : Bool) (x : X) (xs : List X) → All (λ y. n x ≤ n y) xs → IsNonDecreasingBy n xs → IsNonDecreasingBy n (if test then x ∷ xs else xs)
  rises_if true x xs least rises = rises_before x xs least rises
  rises_if false x xs least rises = rises

  pub picked_rises : (passes : ℕ → Bool) (place : ℕ) (xs : List X) → IsNonDecreasingBy n xs → IsNonDecreasingBy n (picked passes place xs)
  picked_rises passes place [] rises = λ i j d le lt. absurd (omega (arith, lt))
  picked_rises passes place (x ∷ xs) rises =
      rises_if (passes place) x (picked passes (place + 1) xs) (all_picked (λ y. n x ≤ n y) passes (place + 1) xs (no_less x xs rises)) (picked_rises passes (place + 1) xs (rest_rises x xs rises))

pub beginnings_rise : (ops : List Op) → IsNonDecreasingBy (λ (op : Op). op.begin.0) ops → IsNonDecreasingBy (λ (moment : Moment). moment.0) (map (λ (op : Op). op.begin) ops)
beginnings_rise [] rises = λ i j d le lt. absurd (omega (arith, lt))
beginnings_rise (op ∷ ops) rises =
    rises_before (λ (moment : Moment). moment.0) op.begin (map (λ (o : Op). o.begin) ops)
    (All-map (λ (moment : Moment). op.begin.0 ≤ moment.0) (λ (o : Op). o.begin) ops (no_less (λ (o : Op). o.begin.0) op ops rises))
    (beginnings_rise ops (rest_rises (λ (o : Op). o.begin.0) op ops rises))
