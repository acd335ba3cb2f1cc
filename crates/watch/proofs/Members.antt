-- What a filtered or mapped list contains.
use Rattle.std.proofs.Common.{◌≡◌, ◌⊎◌, inl, inr, ℕ, zero, suc, ◌<◌, Bool, true, false, List, [], ◌∷◌, map, length, refl, ap, cond, arith}
use Rattle.std.specs.Prelude.{Contains, filter, slice_index_or}

module _ {X : Type 0} where
  pub here : (a : X) (xs : List X) → Contains (a ∷ xs) a
  here a xs = (0, omega arith, refl)

  pub there : (a : X) (xs : List X) (x : X) → Contains xs x → Contains (a ∷ xs) x
  there a xs x h = (suc h.0, omega (arith, h.1), h.2)

  in_none_at : (x : X) (k : ℕ) → k < length {A = X} [] → ⊥
  in_none_at x k lt = absurd (omega arith)

  pub in_none : (x : X) → ¬ Contains [] x
  in_none x h = in_none_at x h.0 h.1

  place_cases : (a : X) (xs : List X) (x : X) (k : ℕ) → k < length (a ∷ xs) → slice_index_or (a ∷ xs) k x ≡ x → (a ≡ x) ⊎ Contains xs x
  place_cases a xs x zero lt e = inl e
  place_cases a xs x (suc k) lt e = inr (k, omega arith, e)

  pub contains_cases : (a : X) (xs : List X) (x : X) → Contains (a ∷ xs) x → (a ≡ x) ⊎ Contains xs x
  contains_cases a xs x h = place_cases a xs x h.0 h.1 h.2

  module _ (test : X → Bool) where
    pub kept : (xs : List X) (x : X) → Contains xs x → test x ≡ true → Contains (filter test xs) x
    kept [] x h t = absurd (in_none x h)
    kept (a ∷ xs) x h t = by_cases (contains_cases a xs x h) (test a) refl (λ h. kept xs x h t)
      where
        by_cases : (a ≡ x) ⊎ Contains xs x → (b : Bool) → test a ≡ b → (Contains xs x → Contains (filter test xs) x) → Contains (cond b (a ∷ filter test xs) (filter test xs)) x
        by_cases (inl e) true s rest = (0, omega arith, e)
        by_cases (inl e) false s rest = absurd (cc)
        by_cases (inr h) true s rest = there a (filter test xs) x (rest h)
        by_cases (inr h) false s rest = rest h

    pub kept_present : (xs : List X) (x : X) → Contains (filter test xs) x → Contains xs x × (test x ≡ true)
    kept_present [] x h = absurd (in_none x h)
    kept_present (a ∷ xs) x h = by_cases (test a) refl h (kept_present xs x)
      where
        by_place : test a ≡ true → (Contains (filter test xs) x → Contains xs x × (test x ≡ true)) → (a ≡ x) ⊎ Contains (filter test xs) x → Contains (a ∷ xs) x × (test x ≡ true)
        by_place s rest (inl e) = ((0, omega arith, e), (cc))
        by_place s rest (inr h) = (there a xs x (rest h).0, (rest h).1)

        by_cases : (b : Bool) → test a ≡ b → Contains (cond b (a ∷ filter test xs) (filter test xs)) x → (Contains (filter test xs) x → Contains xs x × (test x ≡ true)) → Contains (a ∷ xs) x × (test x ≡ true)
        by_cases true s h rest = by_place s rest (contains_cases a (filter test xs) x h)
        by_cases false s h rest = (there a xs x (rest h).0, (rest h).1)

  module _ {Y : Type 0} (f : X → Y) where
    pub mapped : (xs : List X) (x : X) → Contains xs x → Contains (map f xs) (f x)
    mapped [] x h = absurd (in_none x h)
    mapped (a ∷ xs) x h = by_cases (contains_cases a xs x h) (mapped xs x)
      where
        by_cases : (a ≡ x) ⊎ Contains xs x → (Contains xs x → Contains (map f xs) (f x)) → Contains (f a ∷ map f xs) (f x)
        by_cases (inl e) rest = (0, omega arith, ap f e)
        by_cases (inr h) rest = (suc (rest h).0, omega (arith, (rest h).1), (rest h).2)

module _ {X Y : Type 0} (f : X → Y) where
  -- what a mapped list contains is the image of what the list contains
  pub from_map : (xs : List X) (y : Y) → Contains (map f xs) y → (x : X) × Contains xs x × (f x ≡ y)
  from_map [] y h = absurd (in_none y h)
  from_map (a ∷ xs) y h = by_cases (contains_cases (f a) (map f xs) y h) (from_map xs y)
    where
      by_cases : (f a ≡ y) ⊎ Contains (map f xs) y → (Contains (map f xs) y → (x : X) × Contains xs x × (f x ≡ y)) → (x : X) × Contains (a ∷ xs) x × (f x ≡ y)
      by_cases (inl e) rest = (a, here a xs, e)
      by_cases (inr h) rest = let (x, at, e) = rest h in (x, there a xs x at, e)
