-- A relation that exchanges of neighbours keep is kept by every permutation.
use Rattle.std.proofs.Common.{◌≡◌, ℕ, zero, suc, ◌<◌, Bool, true, false, List, [], ◌∷◌, map, length, get_or, set, swap, IsPermutation, refl, cond, arith}
use Rattle.std.specs.Prelude.{filter}
use Rattle.std.proofs.lemmas.List.Sorted.{IsPermutation-refl, IsPermutation-trans, IsPermutation-cons, IsPermutation-middle, IsPermutation-keeps}

module _ {X : Type 0} (R : List X → List X → Type 0) (same : (xs : List X) → R xs xs) (joined : (xs ys zs : List X) → R xs ys → R ys zs → R xs zs)
    (under : (x : X) (xs ys : List X) → R xs ys → R (x ∷ xs) (x ∷ ys)) (flipped : (x y : X) (xs : List X) → R (x ∷ y ∷ xs) (y ∷ x ∷ xs)) where
  pulled : (a : X) (xs : List X) (k : ℕ) (d : X) → k < length xs → R (a ∷ xs) (get_or xs k d ∷ set xs k a)
  pulled a [] k d lt = absurd (omega arith)
  pulled a (b ∷ xs) zero d lt = flipped a b xs
  pulled a (b ∷ xs) (suc k) d lt =
      joined _ _ _ (flipped a b xs) (joined _ _ _ (under b _ _ (pulled a xs k d (omega arith))) (flipped b (get_or xs k d) (set xs k a)))

  exchanged : (xs : List X) (i j : ℕ) (d : X) → i < length xs → j < length xs → R xs (set (set xs i (get_or xs j d)) j (get_or xs i d))
  exchanged [] i j d lt lt' = absurd (omega arith)
  exchanged (a ∷ xs) zero zero d lt lt' = same (a ∷ xs)
  exchanged (a ∷ xs) zero (suc j) d lt lt' = pulled a xs j d (omega arith)
  exchanged (a ∷ xs) (suc i) zero d lt lt' = pulled a xs i d (omega arith)
  exchanged (a ∷ xs) (suc i) (suc j) d lt lt' = under a _ _ (exchanged xs i j d (omega arith) (omega arith))

  swapped : (xs : List X) (i j : ℕ) → i < length xs → j < length xs → R xs (swap xs i j)
  swapped [] i j lt lt' = same []
  swapped (d ∷ xs) i j lt lt' = exchanged (d ∷ xs) i j d lt lt'

  pub shuffled : (xs ys : List X) → IsPermutation xs ys → R xs ys
  shuffled xs ys = IsPermutation-keeps xs (R xs) (same xs) (λ l i j lt lt' r. joined xs l (swap l i j) r (swapped l i j lt lt')) ys

module _ {X : Type 0} (p : X → Bool) where
  under_kept : (b : Bool) (x : X) (xs ys : List X) → IsPermutation xs ys → IsPermutation (cond b (x ∷ xs) xs) (cond b (x ∷ ys) ys)
  under_kept true x xs ys h = IsPermutation-cons x xs ys h
  under_kept false x xs ys h = h

  flipped_kept : (b c : Bool) (x y : X) (xs : List X) → IsPermutation (cond b (x ∷ cond c (y ∷ xs) xs) (cond c (y ∷ xs) xs)) (cond c (y ∷ cond b (x ∷ xs) xs) (cond b (x ∷ xs) xs))
  flipped_kept true true x y xs = IsPermutation-middle (x ∷ []) y xs
  flipped_kept true false x y xs = IsPermutation-refl (x ∷ xs)
  flipped_kept false true x y xs = IsPermutation-refl (y ∷ xs)
  flipped_kept false false x y xs = IsPermutation-refl xs

  -- what a filter keeps of a permutation is a permutation of what it keeps
  pub IsPermutation-filter : (xs ys : List X) → IsPermutation xs ys → IsPermutation (filter p xs) (filter p ys)
  IsPermutation-filter =
      shuffled (λ xs ys. IsPermutation (filter p xs) (filter p ys)) (λ xs. IsPermutation-refl (filter p xs))
      (λ xs ys zs. IsPermutation-trans (filter p xs) (filter p ys) (filter p zs))
      (λ x xs ys. under_kept (p x) x (filter p xs) (filter p ys))
      (λ x y xs. flipped_kept (p x) (p y) x y (filter p xs))

module _ {X Y : Type 0} (f : X → Y) where
  -- some permutation of the list has this image
  abbrev pub IsImage : List X → List Y → Type 0
  IsImage xs l = (zs : List X) × IsPermutation xs zs × (map f zs ≡ l)

  abbrev Follows : List Y → List Y → Type 0
  Follows l m = (xs : List X) → map f xs ≡ l → IsImage xs m

  under_image : (y : Y) (l m : List Y) → Follows l m → Follows (y ∷ l) (y ∷ m)
  under_image y l m h [] e = absurd (cc)
  under_image y l m h (x ∷ xs) e = let (zs, moved, is) = h xs (cc) in (x ∷ zs, IsPermutation-cons x xs zs moved, (cc))

  flipped_image : (y z : Y) (l : List Y) → Follows (y ∷ z ∷ l) (z ∷ y ∷ l)
  flipped_image y z l [] e = absurd (cc)
  flipped_image y z l (a ∷ []) e = absurd (cc)
  flipped_image y z l (a ∷ b ∷ xs) e = (b ∷ a ∷ xs, IsPermutation-middle (a ∷ []) b xs, (cc))

  joined_image : (l m n : List Y) → Follows l m → Follows m n → Follows l n
  joined_image l m n h k xs e =
      let (zs, moved, is) = h xs e in
      let (ws, again, at) = k zs is in
      (ws, IsPermutation-trans xs zs ws moved again, at)

  -- a permutation of the image is the image of a permutation
  pub permuted_before : (xs : List X) (ys : List Y) → IsPermutation (map f xs) ys → IsImage xs ys
  permuted_before xs ys moved =
      shuffled Follows (λ l xs e. (xs, IsPermutation-refl xs, e)) joined_image under_image flipped_image (map f xs) ys moved xs refl
