-- Operations of a list: what is so of each, and of each two.
use Rattle.std.proofs.Common.{◌≡◌, ℕ, ◌<◌, ◌⊎◌, inl, inr, suc, List, ◌∷◌, length, refl, sym, ap, subst, ◌∙◌, arith}
use Rattle.std.specs.Prelude.{All, Contains, slice_index_or}
use Rattle.std.specs.List.{AllPairs}
use Rattle.std.proofs.lemmas.Bool.{cases_order}
use Rattle.std.proofs.lemmas.List.{get_or_default}
use Rattle.std.proofs.lemmas.List.Elements.{Contains-get_or}
use Rattle.intervals.specs.declared.operation.Op.{Op}
use Rattle.intervals.specs.declared.operation.Moment.{Moment}
use Rattle.intervals.specs.Standing.{ShareNoMoment, HasDistinctMoments}

-- what is so of each operation of the list is so of all
pub all_from : (P : Op → Type 0) (ops : List Op) → ((op : Op) → Contains ops op → P op) → All P ops
all_from P ops each k d lt = each (slice_index_or ops k d) (Contains-get_or ops k d lt)

pub here : (a : Op) (ops : List Op) → Contains (a ∷ ops) a
here a ops = (0, omega arith, refl)

pub there : (a : Op) (ops : List Op) (op : Op) → Contains ops op → Contains (a ∷ ops) op
there a ops op h = (suc h.0, omega (arith, h.1), h.2)

-- where each pair of a list is so, two operations of it are equal or are so
module _ (R : Op → Op → Type 0) (symmetric : (a b : Op) → R a b → R b a) (ops : List Op) (pairs : AllPairs R ops) where
  at_indices : (a b : Op) (i j : ℕ) → slice_index_or ops i a ≡ a → slice_index_or ops j b ≡ b → i < j → j < length ops → R a b
  at_indices a b i j p q lt lt' =
      subst (λ (x : Op). R x b) (get_or_default ops i b a (omega arith) ∙ p) (subst (λ (y : Op). R (slice_index_or ops i b) y) q (pairs i j b lt lt'))

  pub one_or_so : (a b : Op) → Contains ops a → Contains ops b → (a ≡ b) ⊎ R a b
  one_or_so a b (i, i_in, p) (j, j_in, q) = by_cases (cases_order i j)
    where
      by_cases : (i ≡ j) ⊎ ((i < j) ⊎ (j < i)) → (a ≡ b) ⊎ R a b
      by_cases (inl same) = inl (sym p ∙ get_or_default ops i a b i_in ∙ ap (λ (k : ℕ). slice_index_or ops k b) same ∙ q)
      by_cases (inr (inl lt)) = inr (at_indices a b i j p q lt j_in)
      by_cases (inr (inr gt)) = inr (symmetric b a (at_indices b a j i q p gt i_in))

-- moments with the same number are equal
pub same_moment : (m n : Moment) → m.0 ≡ n.0 → m ≡ n
same_moment m n e = ap (λ (k : ℕ). let moment : Moment = record { 0 = k } in moment) e

module _ (ops : List Op) (moments : HasDistinctMoments ops) where
  pub share_none : (a b : Op) → Contains ops a → Contains ops b → (a ≡ b) ⊎ ShareNoMoment a b
  share_none = one_or_so ShareNoMoment (λ a b none moment of_b of_a. none moment of_a of_b) ops moments

  pub begin_apart : (a b : Op) → Contains ops a → Contains ops b → a.begin.0 ≡ b.begin.0 → a ≡ b
  begin_apart a b sa sb e = by_cases (share_none a b sa sb)
    where
      by_cases : (a ≡ b) ⊎ ShareNoMoment a b → a ≡ b
      by_cases (inl same) = same
      by_cases (inr none) = absurd (none a.begin (inl refl) (inl (same_moment b.begin a.begin (sym e))))
