-- By a total and transitive relation each list can be sorted.
use Rattle.std.proofs.Common.{◌⊎◌, inl, inr, List, [], ◌∷◌}
use Rattle.std.specs.Prelude.{All, IsPermutation}
use Rattle.std.specs.List.{AllByRecursion}
use Rattle.std.proofs.lemmas.List.Elements.{All-cons, All-weaker, All-from_recursion, recursion_from_All}
use Rattle.std.proofs.lemmas.List.Sorted.{IsPermutation-refl, IsPermutation-cons, IsPermutation-middle, IsPermutation-trans, All-permutation}

module _ {X : Type 0} (R : X → X → Type 0) (total : (x y : X) → R x y ⊎ R y x) (transitive : (x y z : X) → R x y → R y z → R x z) where
  -- each element is so related to all later ones
  abbrev pub InOrder : List X → Type 0
  InOrder [] = Unit {0}
  InOrder (x ∷ later) = AllByRecursion (R x) later × InOrder later

  abbrev pub Ordered : List X → Type 0
  Ordered xs = (order : List X) × IsPermutation xs order × InOrder order

  inserted : (x : X) (ys : List X) → InOrder ys → Ordered (x ∷ ys)
  inserted x [] s = (x ∷ [], IsPermutation-refl (x ∷ []), (tt, tt))
  inserted x (y ∷ ys) s = by_cases (total x y) (inserted x ys s.1)
    where
      by_cases : R x y ⊎ R y x → Ordered (x ∷ ys) → Ordered (x ∷ y ∷ ys)
      by_cases (inl r) rest =
          let all : All (R x) ys = All-weaker (R y) (R x) (λ z. transitive x y z r) ys (All-from_recursion (R y) ys s.0) in
          (x ∷ y ∷ ys, IsPermutation-refl (x ∷ y ∷ ys), ((r, recursion_from_All (R x) ys all), s))
      by_cases (inr r) (zs, p, t) =
          let all : All (R y) (x ∷ ys) = All-cons (R y) x ys r (All-from_recursion (R y) ys s.0) in (
            y ∷ zs,
            IsPermutation-trans (x ∷ y ∷ ys) (y ∷ x ∷ ys) (y ∷ zs) (IsPermutation-middle (x ∷ []) y ys) (IsPermutation-cons y (x ∷ ys) zs p),
            (recursion_from_All (R y) zs (All-permutation (R y) (x ∷ ys) zs p all), t),
          )

  pub ordered : (xs : List X) → Ordered xs
  ordered [] = ([], IsPermutation-refl [], tt)
  ordered (x ∷ xs) = by_order (ordered xs)
    where
      by_insert : (ys : List X) → IsPermutation xs ys → Ordered (x ∷ ys) → Ordered (x ∷ xs)
      by_insert ys p (zs, q, t) = (zs, IsPermutation-trans (x ∷ xs) (x ∷ ys) zs (IsPermutation-cons x xs ys p) q, t)

      by_order : Ordered xs → Ordered (x ∷ xs)
      by_order (ys, p, s) = by_insert ys p (inserted x ys s)
