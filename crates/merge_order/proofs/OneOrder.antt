-- The lists have one order: there is one, which is computed, and any two are equal.
use Rattle.std.proofs.Common.{◌≡◌, ℕ, suc, Bool, true, false, List, [], ◌∷◌, map, Option, if◌then◌else◌, refl, subst}
use Rattle.intervals.specs.declared.operation.Moment.{Moment}
use Rattle.merge_order.specs.Order.{AreInOneOrder, goes_first, in_one_order, left_after, merged_with}
use Rattle.merge_order.proofs.Next.{next_not_earlier, empty_not_earlier, none_next, one_next}

module _ {X : Type 0} (moment : X → Option Moment) where
  pub one_order : (lists : List (List X)) (a b : List (ℕ × X)) → AreInOneOrder moment lists a → AreInOneOrder moment lists b → a ≡ b
  one_order lists [] [] h k = refl
  one_order lists [] (one ∷ b) h k = absurd (none_next moment lists one.0 one.1 h k.0)
  one_order lists (one ∷ a) [] h k = absurd (none_next moment lists one.0 one.1 k h.0)
  one_order lists (one ∷ a) (other ∷ b) h k =
      let (number, element) = one_next moment lists one.0 other.0 one.1 other.1 h.0 k.0 in
      let first : one ≡ other = λ i. (number i, element i) in
      let rest = one_order (left_after other.0 lists) a b (subst (λ (n : ℕ). AreInOneOrder moment (left_after n lists) a) number h.1) k.1 in
      λ i. first i ∷ rest i

  none_of_first : (lists : List (List X)) (later : List (ℕ × X)) → AreInOneOrder moment lists later → AreInOneOrder moment ([] ∷ lists) (map (λ one. (suc one.0, one.1)) later)
  none_of_first lists [] h = (refl, h)
  none_of_first lists (one ∷ later) h = ((refl, h.0), none_of_first (left_after one.0 lists) later h.1)

  with_first : (xs : List X) (lists : List (List X)) (later : List (ℕ × X)) → AreInOneOrder moment lists later → AreInOneOrder moment (xs ∷ lists) (merged_with moment xs later)
  with_first [] lists later h = none_of_first lists later h
  with_first (x ∷ xs) lists [] h = ((refl, empty_not_earlier moment lists x h), with_first xs lists [] h)
  with_first (x ∷ xs) lists (one ∷ later) h =
      by_cases (goes_first (moment one.1) (moment x)) refl (with_first (x ∷ xs) (left_after one.0 lists) later h.1) (with_first xs lists (one ∷ later) h)
    where
      by_cases : (b : Bool) → goes_first (moment one.1) (moment x) ≡ b → AreInOneOrder moment ((x ∷ xs) ∷ left_after one.0 lists) (merged_with moment (x ∷ xs) later)
          → AreInOneOrder moment (xs ∷ lists) (merged_with moment xs (one ∷ later))
          → AreInOneOrder moment ((x ∷ xs) ∷ lists) (if b then (suc one.0, one.1) ∷ merged_with moment (x ∷ xs) later else (0, x) ∷ merged_with moment xs (one ∷ later))
      by_cases true e other_first own_first = ((e, h.0), other_first)
      by_cases false e other_first own_first = ((refl, next_not_earlier moment lists one.0 x one.1 h.0 e), own_first)

  pub some_order : (lists : List (List X)) → AreInOneOrder moment lists (in_one_order moment lists)
  some_order [] = tt
  some_order (xs ∷ lists) = with_first xs lists (in_one_order moment lists) (some_order lists)

  -- a list alone
  pub alone : (xs : List X) → AreInOneOrder moment (xs ∷ []) (map (λ x. (0, x)) xs)
  alone [] = (refl, tt)
  alone (x ∷ xs) = ((refl, tt), alone xs)
