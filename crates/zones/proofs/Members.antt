-- What a list contains, what a filtered or mapped list contains, and pairs of elements.
use Rattle.std.proofs.Common.{◌≡◌, ◌≢◌, ◌⊎◌, inl, inr, ℕ, zero, suc, ◌<◌, Bool, true, false, List, [], ◌∷◌, length, Decides, refl, ap, subst, cond, arith}
use Rattle.std.specs.Prelude.{All, Contains, filter, map, slice_index_or}
use Rattle.std.specs.List.{AllPairs, AllByRecursion}
use Rattle.std.proofs.lemmas.Bool.Decides.{Decides-int_eq, not_from_Decides}
use Rattle.std.proofs.lemmas.List.Elements.{All-head, All-tail, All-map, All-contains, All-from_recursion}
use Rattle.std.proofs.lemmas.List.Kept.{AllPairs-cons}
use Rattle.intervals.specs.declared.operation.Value.{Value}
use Rattle.intervals.specs.declared.operation.Value.TheVariants.{Nil, Int}
use Rattle.intervals.specs.Operation.{same_value}

pub Decides-same_value : (a b : Value) → Decides (same_value a b) (a ≡ b)
Decides-same_value Nil Nil = (λ _. refl, λ _. refl)
Decides-same_value Nil (Int y) = (λ e. absurd (cc), λ e. absurd (cc))
Decides-same_value (Int x) Nil = (λ e. absurd (cc), λ e. absurd (cc))
Decides-same_value (Int x) (Int y) = (λ e. ap Int ((Decides-int_eq x y).0 e), λ e. (Decides-int_eq x y).1 (cc))

-- two values are one or not
pub value_cases : (a b : Value) → (a ≡ b) ⊎ (a ≢ b)
value_cases a b = by_cases (same_value a b) refl
  where
    by_cases : (t : Bool) → same_value a b ≡ t → (a ≡ b) ⊎ (a ≢ b)
    by_cases true e = inl ((Decides-same_value a b).0 e)
    by_cases false e = inr (not_from_Decides (same_value a b) (Decides-same_value a b) e)

module _ {X : Type 0} where
  pub here : (a : X) (xs : List X) → Contains (a ∷ xs) a
  here a xs = (0, omega arith, refl)

  pub there : (a : X) (xs : List X) (x : X) → Contains xs x → Contains (a ∷ xs) x
  there a xs x h = (suc h.0, omega (arith, h.1), h.2)

  in_none_at : (x : X) (k : ℕ) → k < length {A = X} [] → ⊥
  in_none_at x k lt = absurd (omega arith)

  pub in_none : (x : X) → ¬ Contains [] x
  in_none x h = in_none_at x h.0 h.1

  place_cases : (a : X) (xs : List X) (x : X) (k : ℕ) → k < length (a ∷ xs) → slice_index_or (a ∷ xs) k x ≡ x → (a ≡ x) ⊎ Contains xs x
  place_cases a xs x zero lt e = inl e
  place_cases a xs x (suc k) lt e = inr (k, omega arith, e)

  pub contains_cases : (a : X) (xs : List X) (x : X) → Contains (a ∷ xs) x → (a ≡ x) ⊎ Contains xs x
  contains_cases a xs x h = place_cases a xs x h.0 h.1 h.2

  -- the list contains the element at an index
  pub present_at : (xs : List X) (k : ℕ) (d : X) → k < length xs → Contains xs (slice_index_or xs k d)
  present_at [] k d lt = absurd (omega arith)
  present_at (a ∷ xs) zero d lt = (0, omega arith, refl)
  present_at (a ∷ xs) (suc k) d lt = there a xs (slice_index_or xs k d) (present_at xs k d (omega arith))

  pub all_from : (P : X → Type 0) (xs : List X) → ((x : X) → Contains xs x → P x) → All P xs
  all_from P xs each k d lt = each (slice_index_or xs k d) (present_at xs k d lt)

  pub by_recursion_from : (P : X → Type 0) (xs : List X) → ((x : X) → Contains xs x → P x) → AllByRecursion P xs
  by_recursion_from P [] each = tt
  by_recursion_from P (a ∷ xs) each = (each a (here a xs), by_recursion_from P xs (λ x h. each x (there a xs x h)))

  pub from_recursion : (P : X → Type 0) (xs : List X) → AllByRecursion P xs → (x : X) → Contains xs x → P x
  from_recursion P [] all x h = absurd (in_none x h)
  from_recursion P (a ∷ xs) all x h = by_cases (contains_cases a xs x h) (from_recursion P xs all.1 x)
    where
      by_cases : (a ≡ x) ⊎ Contains xs x → (Contains xs x → P x) → P x
      by_cases (inl e) rest = subst P e all.0
      by_cases (inr h) rest = rest h

  module _ (test : X → Bool) where
    pub kept : (xs : List X) (x : X) → Contains xs x → test x ≡ true → Contains (filter test xs) x
    kept [] x h t = absurd (in_none x h)
    kept (a ∷ xs) x h t = by_cases (contains_cases a xs x h) (test a) refl (λ h. kept xs x h t)
      where
        by_cases : (a ≡ x) ⊎ Contains xs x → (b : Bool) → test a ≡ b → (Contains xs x → Contains (filter test xs) x) → Contains (cond b (a ∷ filter test xs) (filter test xs)) x
        by_cases (inl e) true s rest = (0, omega arith, e)
        by_cases (inl e) false s rest = absurd (cc)
        by_cases (inr h) true s rest = there a (filter test xs) x (rest h)
        by_cases (inr h) false s rest = rest h

    pub kept_present : (xs : List X) (x : X) → Contains (filter test xs) x → Contains xs x × (test x ≡ true)
    kept_present [] x h = absurd (in_none x h)
    kept_present (a ∷ xs) x h = by_cases (test a) refl h (kept_present xs x)
      where
        by_place : test a ≡ true → (Contains (filter test xs) x → Contains xs x × (test x ≡ true)) → (a ≡ x) ⊎ Contains (filter test xs) x → Contains (a ∷ xs) x × (test x ≡ true)
        by_place s rest (inl e) = ((0, omega arith, e), (cc))
        by_place s rest (inr h) = (there a xs x (rest h).0, (rest h).1)

        by_cases : (b : Bool) → test a ≡ b → Contains (cond b (a ∷ filter test xs) (filter test xs)) x → (Contains (filter test xs) x → Contains xs x × (test x ≡ true)) → Contains (a ∷ xs) x × (test x ≡ true)
        by_cases true s h rest = by_place s rest (contains_cases a (filter test xs) x h)
        by_cases false s h rest = (there a xs x (rest h).0, (rest h).1)

  module _ {Y : Type 0} (f : X → Y) where
    pub mapped : (xs : List X) (x : X) → Contains xs x → Contains (map f xs) (f x)
    mapped [] x h = absurd (in_none x h)
    mapped (a ∷ xs) x h = by_cases (contains_cases a xs x h) (mapped xs x)
      where
        by_cases : (a ≡ x) ⊎ Contains xs x → (Contains xs x → Contains (map f xs) (f x)) → Contains (f a ∷ map f xs) (f x)
        by_cases (inl e) rest = (0, omega arith, ap f e)
        by_cases (inr h) rest = (suc (rest h).0, omega (arith, (rest h).1), (rest h).2)

  module _ (R : X → X → Type 0) where
    pub pairs_nil : AllPairs R []
    pairs_nil i j d before within = absurd (omega arith)

    pub pairs_head : (x : X) (xs : List X) → AllPairs R (x ∷ xs) → All (R x) xs
    pairs_head x xs h k d within = h zero (suc k) d (omega arith) (omega arith)

    pub pairs_tail : (x : X) (xs : List X) → AllPairs R (x ∷ xs) → AllPairs R xs
    pairs_tail x xs h i j d before within = h (suc i) (suc j) d (omega arith) (omega arith)

    -- two different elements of a list, where the relation has no direction
    pub pair_of : ((x y : X) → R x y → R y x) → (xs : List X) → AllPairs R xs → (x y : X) → Contains xs x → Contains xs y → x ≢ y → R x y
    pair_of symmetric [] pairs x y hx hy apart = absurd (in_none x hx)
    pair_of symmetric (a ∷ xs) pairs x y hx hy apart =
        by_cases (contains_cases a xs x hx) (contains_cases a xs y hy) (λ hx hy. pair_of symmetric xs (pairs_tail a xs pairs) x y hx hy apart)
      where
        by_cases : (a ≡ x) ⊎ Contains xs x → (a ≡ y) ⊎ Contains xs y → (Contains xs x → Contains xs y → R x y) → R x y
        by_cases (inl e) (inl f) rest = absurd (apart (cc))
        by_cases (inl e) (inr h) rest = subst (λ (z : X). R z y) e (All-contains (R a) xs y (pairs_head a xs pairs) h)
        by_cases (inr h) (inl f) rest = subst (λ (z : X). R x z) f (symmetric a x (All-contains (R a) xs x (pairs_head a xs pairs) h))
        by_cases (inr h) (inr k) rest = rest h k

  -- pairs of an image
  pub pairs_mapped : {Y : Type 0} (f : X → Y) (P : X → Type 0) (R : X → X → Type 0) (S : Y → Y → Type 0) → ((x y : X) → P x → P y → R x y → S (f x) (f y)) → (xs : List X) → All P xs → AllPairs R xs → AllPairs S (map f xs)
  pairs_mapped {Y} f P R S step [] all pairs = λ i j d before within. absurd (omega arith)
  pairs_mapped {Y} f P R S step (a ∷ xs) all pairs =
      AllPairs-cons S (f a) (map f xs)
      (All-map (S (f a)) f xs (λ k d lt. step a (slice_index_or xs k d) (All-head P a xs all) (All-tail P a xs all k d lt) (pairs_head R a xs pairs k d lt)))
      (pairs_mapped f P R S step xs (All-tail P a xs all) (pairs_tail R a xs pairs))

  -- the relation holds of each element with all later ones
  abbrev pub EachLater : (X → X → Type 0) → List X → Type 0
  EachLater R [] = Unit {0}
  EachLater R (x ∷ later) = AllByRecursion (R x) later × EachLater R later

  pub pairs_from_each : (R : X → X → Type 0) (xs : List X) → EachLater R xs → AllPairs R xs
  pairs_from_each R [] s = pairs_nil R
  pairs_from_each R (x ∷ later) s = AllPairs-cons R x later (All-from_recursion (R x) later s.0) (pairs_from_each R later s.1)
