-- Which element is at an index of a list with one more at the end.
use Rattle.std.proofs.Common.{◌≡◌, ◌⊎◌, inl, inr, ℕ, zero, suc, List, [], ◌∷◌, ◌++◌, length, Some, refl, ap}
use Rattle.std.proofs.lemmas.Option.{same_Some}
use Rattle.std.specs.List.{slice_get}

pub get_pushed : {X : Type 0} (xs : List X) (x y : X) (n : ℕ) → slice_get (xs ++ x ∷ []) n ≡ Some y → (slice_get xs n ≡ Some y) ⊎ ((n ≡ length xs) × (x ≡ y))
get_pushed [] x y zero is = inr (refl, same_Some x y is)
get_pushed [] x y (suc n) is = absurd (cc)
get_pushed (z ∷ xs) x y zero is = inl is
get_pushed (z ∷ xs) x y (suc n) is = further (get_pushed xs x y n is)
  where
    further : (slice_get xs n ≡ Some y) ⊎ ((n ≡ length xs) × (x ≡ y)) → (slice_get xs n ≡ Some y) ⊎ ((suc n ≡ suc (length xs)) × (x ≡ y))
    further (inl old) = inl old
    further (inr (last, same)) = inr (ap suc last, same)
