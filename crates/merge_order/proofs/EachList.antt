-- In the one order each list keeps its elements and their order, and each element is of one of the lists.
use Rattle.std.proofs.Common.{◌≡◌, ◌≢◌, ◌<◌, ◌⊎◌, ◌==◌, inl, inr, ℕ, zero, suc, Bool, List, [], ◌∷◌, map, filter, get_or, length, Option, if◌then◌else◌, refl, sym, ap, subst, ◌∙◌, arith}
use Rattle.std.specs.List.{AllByRecursion}
use Rattle.std.proofs.lemmas.Bool.{cases_eq, eq-eqb, ne_eqb}
use Rattle.intervals.specs.declared.operation.Moment.{Moment}
use Rattle.merge_order.specs.Order.{AreInOneOrder, ComesNext, elements_from, left_after}

module _ {X : Type 0} where
  others_left : (lists : List (List X)) (at other : ℕ) → at ≢ other → get_or (left_after at lists) other [] ≡ get_or lists other []
  others_left [] at other apart = refl
  others_left (xs ∷ lists) zero zero apart = absurd (apart refl)
  others_left (xs ∷ lists) zero (suc other) apart = refl
  others_left (xs ∷ lists) (suc at) zero apart = refl
  others_left (xs ∷ lists) (suc at) (suc other) apart = others_left lists at other (λ same. apart (ap suc same))

  as_many : (lists : List (List X)) (at : ℕ) → length (left_after at lists) ≡ length lists
  as_many [] at = refl
  as_many (xs ∷ lists) zero = refl
  as_many (xs ∷ lists) (suc at) = ap suc (as_many lists at)

  empty_at : (lists : List (List X)) (at : ℕ) → AllByRecursion (λ xs. xs ≡ []) lists → [] ≡ get_or lists at []
  empty_at [] at empty = refl
  empty_at (xs ∷ lists) zero empty = sym empty.0
  empty_at (xs ∷ lists) (suc at) empty = empty_at lists at empty.1

  from_own : (one : ℕ × X) (order : List (ℕ × X)) (at : ℕ) → one.0 ≡ at → elements_from at (one ∷ order) ≡ one.1 ∷ elements_from at order
  from_own one order at same =
      ap (λ (b : Bool). map (λ (one : ℕ × X). one.1) (if b then one ∷ filter (λ one. one.0 == at) order else filter (λ one. one.0 == at) order)) (eq-eqb one.0 at same)

  from_other : (one : ℕ × X) (order : List (ℕ × X)) (at : ℕ) → one.0 ≢ at → elements_from at (one ∷ order) ≡ elements_from at order
  from_other one order at apart =
      ap (λ (b : Bool). map (λ (one : ℕ × X). one.1) (if b then one ∷ filter (λ one. one.0 == at) order else filter (λ one. one.0 == at) order)) (ne_eqb one.0 at apart)

module _ {X : Type 0} (moment : X → Option Moment) where
  own_left : (lists : List (List X)) (at : ℕ) (x : X) → ComesNext moment lists at x → x ∷ get_or (left_after at lists) at [] ≡ get_or lists at []
  own_left [] at x next = absurd next
  own_left ([] ∷ lists) zero x next = absurd next.0
  own_left ((y ∷ ys) ∷ lists) zero x next = ap (λ (z : X). z ∷ ys) (sym next.0)
  own_left (xs ∷ lists) (suc at) x next = own_left lists at x next.1

  pub each_kept : (lists : List (List X)) (order : List (ℕ × X)) (at : ℕ) → AreInOneOrder moment lists order → elements_from at order ≡ get_or lists at []
  each_kept lists [] at h = empty_at lists at h
  each_kept lists (one ∷ order) at h = by_cases (cases_eq one.0 at) (each_kept (left_after one.0 lists) order at h.1)
    where
      by_cases : (one.0 ≡ at) ⊎ (one.0 ≢ at) → elements_from at order ≡ get_or (left_after one.0 lists) at [] → elements_from at (one ∷ order) ≡ get_or lists at []
      by_cases (inl same) rest =
          from_own one order at same
          ∙ ap (λ (xs : List X). one.1 ∷ xs) rest
          ∙ subst (λ (n : ℕ). one.1 ∷ get_or (left_after one.0 lists) n [] ≡ get_or lists n []) same (own_left lists one.0 one.1 h.0)
      by_cases (inr apart) rest = from_other one order at apart ∙ rest ∙ others_left lists one.0 at apart

  next_within : (lists : List (List X)) (at : ℕ) (x : X) → ComesNext moment lists at x → at < length lists
  next_within [] at x next = absurd next
  next_within (xs ∷ lists) zero x next = omega arith
  next_within (xs ∷ lists) (suc at) x next = let rest = next_within lists at x next.1 in omega arith

  pub each_within : (lists : List (List X)) (order : List (ℕ × X)) → AreInOneOrder moment lists order → AllByRecursion (λ one. one.0 < length lists) order
  each_within lists [] h = tt
  each_within lists (one ∷ order) h = (
    next_within lists one.0 one.1 h.0,
    subst (λ (n : ℕ). AllByRecursion (λ other. other.0 < n) order) (as_many lists one.0) (each_within (left_after one.0 lists) order h.1),
  )
