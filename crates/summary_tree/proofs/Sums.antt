-- The summary of a node's items is made of those of its sides and of its item.
use Rattle.std.proofs.Common.{List, [], ◌∷◌, ◌++◌, Option, Some, None, sym, subst}
use Rattle.summary_tree.specs.Layers.{IsSummed, with_first, joined}

module _ {T S : Type 0} (one : T → S) (join : S → S → S) (IsOf : S → List T → Type 0) (one_is : (x : T) → IsOf (one x) (x ∷ [])) (join_is : (s t : S) (xs ys : List T) → IsOf s xs → IsOf t ys → IsOf (join s t) (xs ++ ys)) where
  first_is : (x : T) (r : Option S) (ys : List T) → IsSummed IsOf r ys → IsOf (with_first one join x r) (x ∷ ys)
  unfolding with_first
  first_is x None ys none = subst (λ zs. IsOf (one x) (x ∷ zs)) (sym none) (one_is x)
  first_is x (Some s) ys is = join_is (one x) s (x ∷ []) ys (one_is x) is

  joined_is : (l : Option S) (s : S) (xs ys : List T) → IsSummed IsOf l xs → IsOf s ys → IsOf (joined join l s) (xs ++ ys)
  unfolding joined
  joined_is None s xs ys none is = subst (λ zs. IsOf s (zs ++ ys)) (sym none) is
  joined_is (Some l) s xs ys of is = join_is l s xs ys of is

  pub around_is : (l : Option S) (x : T) (r : Option S) (xs ys : List T) → IsSummed IsOf l xs → IsSummed IsOf r ys → IsOf (joined join l (with_first one join x r)) (xs ++ x ∷ ys)
  around_is l x r xs ys front back = joined_is l (with_first one join x r) xs (x ∷ ys) front (first_is x r ys back)
