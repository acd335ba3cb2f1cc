-- What holds of each two elements of a list, in its order.
use Rattle.std.proofs.Common.{zero, suc, List, [], ◌∷◌, ◌++◌, arith}
use Rattle.std.specs.Prelude.{All}
use Rattle.std.specs.List.{AllPairs}
use Rattle.std.proofs.lemmas.List.Elements.{All-nil, All-cons, All-head, All-tail, All-append}

-- what holds of all elements of a list holds of those of its first part, and of those of its second part
pub All-front : {X : Type 0} (P : X → Type 0) (xs ys : List X) → All P (xs ++ ys) → All P xs
All-front P [] ys h = All-nil P
All-front P (x ∷ xs) ys h = All-cons P x xs (All-head P x (xs ++ ys) h) (All-front P xs ys (All-tail P x (xs ++ ys) h))

pub All-back : {X : Type 0} (P : X → Type 0) (xs ys : List X) → All P (xs ++ ys) → All P ys
All-back P [] ys h = h
All-back P (x ∷ xs) ys h = All-back P xs ys (All-tail P x (xs ++ ys) h)

module _ {X : Type 0} (R : X → X → Type 0) where
  pub pairs_nil : AllPairs R []
  pairs_nil i j d before within = absurd (omega arith)

  pub pairs_head : (x : X) (xs : List X) → AllPairs R (x ∷ xs) → All (R x) xs
  pairs_head x xs h k d within = h zero (suc k) d (omega arith) (omega arith)

  pub pairs_tail : (x : X) (xs : List X) → AllPairs R (x ∷ xs) → AllPairs R xs
  pairs_tail x xs h i j d before within = h (suc i) (suc j) d (omega arith) (omega arith)

  pub pairs_cons : (x : X) (xs : List X) → All (R x) xs → AllPairs R xs → AllPairs R (x ∷ xs)
  pairs_cons x xs all h zero zero d before within = absurd (omega arith)
  pairs_cons x xs all h zero (suc j) d before within = all j d (omega arith)
  pairs_cons x xs all h (suc i) zero d before within = absurd (omega arith)
  pairs_cons x xs all h (suc i) (suc j) d before within = h i j d (omega arith) (omega arith)

  -- the relation holds of each element of the first list with each of the second
  abbrev pub Across : List X → List X → Type 0
  Across xs ys = All (λ x. All (R x) ys) xs

  pub pairs_append : (xs ys : List X) → AllPairs R xs → AllPairs R ys → Across xs ys → AllPairs R (xs ++ ys)
  pairs_append [] ys h k a = k
  pairs_append (x ∷ xs) ys h k a =
      pairs_cons x (xs ++ ys)
      (All-append (R x) xs ys (pairs_head x xs h) (All-head (λ y. All (R y) ys) x xs a))
      (pairs_append xs ys (pairs_tail x xs h) k (All-tail (λ y. All (R y) ys) x xs a))

  pub pairs_front : (xs ys : List X) → AllPairs R (xs ++ ys) → AllPairs R xs
  pairs_front [] ys h = pairs_nil
  pairs_front (x ∷ xs) ys h =
      pairs_cons x xs (All-front (R x) xs ys (pairs_head x (xs ++ ys) h)) (pairs_front xs ys (pairs_tail x (xs ++ ys) h))

  pub pairs_back : (xs ys : List X) → AllPairs R (xs ++ ys) → AllPairs R ys
  pairs_back [] ys h = h
  pairs_back (x ∷ xs) ys h = pairs_back xs ys (pairs_tail x (xs ++ ys) h)

  pub pairs_across : (xs ys : List X) → AllPairs R (xs ++ ys) → Across xs ys
  pairs_across [] ys h = All-nil (λ x. All (R x) ys)
  pairs_across (x ∷ xs) ys h =
      All-cons (λ y. All (R y) ys) x xs (All-back (R x) xs ys (pairs_head x (xs ++ ys) h)) (pairs_across xs ys (pairs_tail x (xs ++ ys) h))
