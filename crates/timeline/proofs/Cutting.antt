-- Rows that fit still do when one more row is begun after them.
use Rattle.std.proofs.Common.{◌≡◌, ◌∙◌, ◌<◌, ◌⊎◌, inl, inr, ℕ, zero, suc, List, [], ◌∷◌, ◌++◌, length, Some, refl, sym, ap, subst, arith}
use Rattle.std.proofs.lemmas.Option.{slice_get_within}
use Rattle.std.specs.List.{slice_get}
use Rattle.timeline.specs.Row.{AreRowsUpTo, FitsRow}
use Rattle.timeline.proofs.Loops.{get_pushed}

long_pushed : {X : Type 0} (xs : List X) (x : X) → length (xs ++ x ∷ []) ≡ suc (length xs)
long_pushed [] x = refl
long_pushed (y ∷ xs) x = ap suc (long_pushed xs x)

zero_unless : (n : ℕ) → (0 < n → ⊥) → n ≡ 0
zero_unless zero not_more = refl
zero_unless (suc n) not_more = absurd (not_more (omega arith))

pub row_more : (places : List ℕ) (width : ℕ) (starts new : List ℕ) (start end : ℕ) → AreRowsUpTo places width starts start → new ≡ starts ++ start ∷ [] → start < end → FitsRow places width start end → AreRowsUpTo places width new end
row_more places width starts new start end rows pushed lt is = subst (λ (ss : List ℕ). AreRowsUpTo places width ss end) (sym pushed) (record { first = first; some = λ more. omega (arith, long_pushed starts start); next = next; last = last })
  where
    -- the last row so far ends where the new one begins
    before_new : (k before : ℕ) → slice_get starts k ≡ Some before → suc k ≡ length starts → (before < start) × FitsRow places width before start
    before_new k before at last = rows.last k before at (sym last)

    first : (s : ℕ) → slice_get (starts ++ start ∷ []) 0 ≡ Some s → s ≡ 0
    first s at = by_cases (get_pushed starts start s 0 at)
      where
        by_cases : (slice_get starts 0 ≡ Some s) ⊎ ((0 ≡ length starts) × (start ≡ s)) → s ≡ 0
        by_cases (inl old) = rows.first s old
        by_cases (inr (none, same)) = sym same ∙ nothing (rows.some) none
          where
            nothing : (0 < start → 0 < length starts) → 0 ≡ length starts → start ≡ 0
            nothing some empty = zero_unless start (λ more. omega (arith, some more, empty))

    next : (k s t : ℕ) → slice_get (starts ++ start ∷ []) k ≡ Some s → slice_get (starts ++ start ∷ []) (suc k) ≡ Some t → (s < t) × FitsRow places width s t
    next k s t at_s at_t = by_cases (get_pushed starts start s k at_s) (get_pushed starts start t (suc k) at_t)
      where
        by_cases : (slice_get starts k ≡ Some s) ⊎ ((k ≡ length starts) × (start ≡ s)) → (slice_get starts (suc k) ≡ Some t) ⊎ ((suc k ≡ length starts) × (start ≡ t)) → (s < t) × FitsRow places width s t
        by_cases (inl one) (inl two) = rows.next k s t one two
        by_cases (inl one) (inr (last, same)) = subst (λ (n : ℕ). (s < n) × FitsRow places width s n) same (before_new k s one last)
        by_cases (inr (here, one)) (inl two) = absurd (omega (arith, here, slice_get_within starts (suc k) t two))
        by_cases (inr (here, one)) (inr (last, two)) = absurd (omega (arith, here, last))

    last : (k s : ℕ) → slice_get (starts ++ start ∷ []) k ≡ Some s → length (starts ++ start ∷ []) ≡ suc k → (s < end) × FitsRow places width s end
    last k s at many = by_cases (get_pushed starts start s k at)
      where
        by_cases : (slice_get starts k ≡ Some s) ⊎ ((k ≡ length starts) × (start ≡ s)) → (s < end) × FitsRow places width s end
        by_cases (inl old) = absurd (omega (arith, many, long_pushed starts start, slice_get_within starts k s old))
        by_cases (inr (here, same)) = subst (λ (n : ℕ). (n < end) × FitsRow places width n end) same (lt, is)
