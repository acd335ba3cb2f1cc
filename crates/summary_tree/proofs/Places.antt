-- An item's place among items in order.
use Rattle.std.proofs.Common.{◌≡◌, ◌≢◌, ◌∙◌, ◌⊎◌, inl, inr, ◌+◌, Bool, true, false, not, cond, List, [], ◌∷◌, ◌++◌, length, None, refl, sym, ap, subst, arith, length-append}
use Rattle.std.specs.Prelude.{All, IsTrue, filter}
use Rattle.std.specs.List.Sorted.{IsPermutation}
use Rattle.std.proofs.lemmas.Bool.{cases_Bool, both_ways, not_from_false, not_from_true, not-true, false_from_ne_true}
use Rattle.std.proofs.lemmas.List.{append-nil}
use Rattle.std.proofs.lemmas.List.Elements.{All-nil, All-cons, All-head, All-tail, All-weaker, filter-append, filter_passes}
use Rattle.std.proofs.lemmas.List.Sorted.{IsPermutation-sym, IsPermutation-middle}
use Rattle.std.proofs.lemmas.List.Kept.{AllPairs-filter}
use Rattle.summary_tree.specs.Order.{IsStrictOrder, IsExact, AreInOrder, HasNoneAt, below, above, with_item, item_at, without_item}
use Rattle.summary_tree.proofs.Lists.{filter_all, filter_none, find_none, none_found}
use Rattle.summary_tree.proofs.Pairs.{pairs_head, pairs_tail, pairs_append, pairs_cons}

-- lemmas on two keys
module _ {K : Type 0} (before : K → K → Bool) (order : IsStrictOrder before) where
  pub not_both_ways : (a b : K) → IsTrue (before a b) → ¬ IsTrue (before b a)
  not_both_ways a b p q = order.irreflexive a (order.transitive a b a p q)

  pub before-false : (a b : K) → ¬ IsTrue (before a b) → before a b ≡ false
  before-false a b n = false_from_ne_true (before a b) n

  pub not_back : (a b : K) → IsTrue (before a b) → before b a ≡ false
  not_back a b h = before-false b a (not_both_ways a b h)

  after_by : (a b : K) → a ≢ b → before a b ≡ false → IsTrue (before a b) ⊎ ((a ≡ b) ⊎ IsTrue (before b a)) → IsTrue (before b a)
  after_by a b n e (inl h) = absurd (both_ways (before a b) e h)
  after_by a b n e (inr (inl h)) = absurd (n h)
  after_by a b n e (inr (inr h)) = h

  -- of two different keys the one that is not before the other is after it
  pub after_from : (a b : K) → a ≢ b → before a b ≡ false → IsTrue (before b a)
  after_from a b n e = after_by a b n e (order.total a b)

  pub differs : (a b : K) → IsTrue (before a b) → a ≢ b
  differs a b h e = order.irreflexive b (subst (λ (k : K). IsTrue (before k b)) e h)

  one_by : (a b : K) → ¬ IsTrue (before a b) → ¬ IsTrue (before b a) → IsTrue (before a b) ⊎ ((a ≡ b) ⊎ IsTrue (before b a)) → b ≡ a
  one_by a b n m (inl h) = absurd (n h)
  one_by a b n m (inr (inl h)) = sym h
  one_by a b n m (inr (inr h)) = absurd (m h)

  -- two keys of which neither comes before the other are one
  pub one_key : (a b : K) → ¬ IsTrue (before a b) → ¬ IsTrue (before b a) → b ≡ a
  one_key a b n m = one_by a b n m (order.total a b)

module _ {K : Type 0} (same : K → K → Bool) (exact : IsExact same) where
  pub other_key : (a b : K) → a ≢ b → same a b ≡ false
  other_key a b n = false_from_ne_true (same a b) (λ e. n (exact.one a b e))

module _ {K T : Type 0} (key : T → K) (before : K → K → Bool) (order : IsStrictOrder before) where
  abbrev Before : T → T → Type 0
  Before a b = IsTrue (before (key a) (key b))

  -- the items in two parts: those whose keys come before this one, and those whose keys come after it
  pub below_parts : (k : K) (xs ys : List T) → All (λ x. IsTrue (before (key x) k)) xs → All (λ y. IsTrue (before k (key y))) ys → below key before k (xs ++ ys) ≡ xs
  below_parts k xs ys less more =
      filter-append (λ x. before (key x) k) xs ys
      ∙ ap (λ zs. zs ++ filter (λ x. before (key x) k) ys) (filter_all (λ x. before (key x) k) xs less)
      ∙ ap (λ zs. xs ++ zs) (filter_none (λ x. before (key x) k) ys (All-weaker (λ y. IsTrue (before k (key y))) (λ y. before (key y) k ≡ false) (λ y h. not_back before order k (key y) h) ys more))
      ∙ append-nil xs

  pub above_parts : (k : K) (xs ys : List T) → All (λ x. IsTrue (before (key x) k)) xs → All (λ y. IsTrue (before k (key y))) ys → above key before k (xs ++ ys) ≡ ys
  above_parts k xs ys less more =
      filter-append (λ x. before k (key x)) xs ys
      ∙ ap (λ zs. zs ++ filter (λ x. before k (key x)) ys) (filter_none (λ x. before k (key x)) xs (All-weaker (λ x. IsTrue (before (key x) k)) (λ x. before k (key x) ≡ false) (λ x h. not_back before order (key x) k h) xs less))
      ∙ filter_all (λ x. before k (key x)) ys more

  parts_by : (k : K) (x : T) (xs : List T) → AreInOrder key before (x ∷ xs) → HasNoneAt key k (x ∷ xs) → xs ≡ below key before k xs ++ above key before k xs → (before (key x) k ≡ true) ⊎ (before (key x) k ≡ false) → x ∷ xs ≡ below key before k (x ∷ xs) ++ above key before k (x ∷ xs)
  parts_by k x xs by new later (inl e) =
      let kept = ap (λ (b : Bool). cond b (x ∷ below key before k xs) (below key before k xs)) e in
      let gone = ap (λ (b : Bool). cond b (x ∷ above key before k xs) (above key before k xs)) (not_back before order (key x) k e) in
      ap (λ zs. x ∷ zs) later ∙ sym (ap (λ zs. zs ++ above key before k (x ∷ xs)) kept ∙ ap (λ zs. (x ∷ below key before k xs) ++ zs) gone)
  parts_by k x xs by new later (inr e) =
      let after : IsTrue (before k (key x)) = after_from before order (key x) k (All-head (λ y. key y ≢ k) x xs new) e in
      let all : All (λ y. IsTrue (before k (key y))) (x ∷ xs) =
      All-cons (λ y. IsTrue (before k (key y))) x xs after
      (All-weaker (Before x) (λ y. IsTrue (before k (key y))) (λ y h. order.transitive k (key x) (key y) after h) xs (pairs_head Before x xs by)) in
      sym (ap (λ zs. zs ++ above key before k (x ∷ xs)) (below_parts k [] (x ∷ xs) (All-nil (λ y. IsTrue (before (key y) k))) all) ∙ above_parts k [] (x ∷ xs) (All-nil (λ y. IsTrue (before (key y) k))) all)

  -- the items before a key that no item has, and those after it, are all items
  pub parts : (k : K) (items : List T) → AreInOrder key before items → HasNoneAt key k items → items ≡ below key before k items ++ above key before k items
  parts k [] by new = refl
  parts k (x ∷ xs) by new =
      parts_by k x xs by new (parts k xs (pairs_tail Before x xs by) (All-tail (λ y. key y ≢ k) x xs new)) (cases_Bool (before (key x) k))

  pub order_kept : (p : T → Bool) (items : List T) → AreInOrder key before items → AreInOrder key before (filter p items)
  order_kept p items by = AllPairs-filter Before p items by

  pub order_with : (new : T) (items : List T) → AreInOrder key before items → AreInOrder key before (with_item key before new items)
  order_with new items by =
      let less = below key before (key new) items in
      let more = above key before (key new) items in
      let above_new : All (Before new) more = filter_passes (λ x. before (key new) (key x)) items in
      pairs_append Before less (new ∷ more) (order_kept (λ x. before (key x) (key new)) items by)
      (pairs_cons Before new more above_new (order_kept (λ x. before (key new) (key x)) items by))
      (All-weaker (λ x. Before x new) (λ x. All (Before x) (new ∷ more))
      (λ x h. All-cons (Before x) new more h (All-weaker (Before new) (Before x) (λ y g. order.transitive (key x) (key new) (key y) h g) more above_new))
      less (filter_passes (λ x. before (key x) (key new)) items))

  -- the items with one more are those and that one
  pub members_with : (new : T) (items : List T) → AreInOrder key before items → HasNoneAt key (key new) items → IsPermutation (new ∷ items) (with_item key before new items)
  members_with new items by none =
      let less = below key before (key new) items in
      let more = above key before (key new) items in
      subst (λ zs. IsPermutation (new ∷ zs) (less ++ new ∷ more)) (sym (parts (key new) items by none))
      (IsPermutation-sym (less ++ new ∷ more) (new ∷ (less ++ more)) (IsPermutation-middle less new more))

  pub count_with : (new : T) (items : List T) → AreInOrder key before items → HasNoneAt key (key new) items → length (with_item key before new items) ≡ length items + 1
  count_with new items by none =
      let less = below key before (key new) items in
      let more = above key before (key new) items in
      omega (arith, length-append less (new ∷ more), length-append less more, ap length (parts (key new) items by none))

module _ {K T : Type 0} (key : T → K) (same : K → K → Bool) (exact : IsExact same) where
  pub keep_all : (k : K) (items : List T) → All (λ x. same (key x) k ≡ false) items → without_item key same k items ≡ items
  keep_all k items h =
      filter_all (λ x. not (same (key x) k)) items
      (All-weaker (λ x. same (key x) k ≡ false) (λ x. not (same (key x) k) ≡ true) (λ x e. not_from_false (same (key x) k) e) items h)

  pub keep_without : (k : K) (items : List T) → item_at key same k items ≡ None → without_item key same k items ≡ items
  keep_without k items e = keep_all k items (none_found (λ x. same (key x) k) items e)

  -- no item is found exactly where none has that key
  pub none_where : (k : K) (items : List T) → item_at key same k items ≡ None → HasNoneAt key k items
  none_where k items e = All-weaker (λ x. same (key x) k ≡ false) (λ x. key x ≢ k) (λ x f e. both_ways (same (key x) k) f (exact.here (key x) k e)) items (none_found (λ x. same (key x) k) items e)

  pub none_there : (k : K) (items : List T) → HasNoneAt key k items → item_at key same k items ≡ None
  none_there k items new = find_none (λ x. same (key x) k) items (All-weaker (λ x. key x ≢ k) (λ x. same (key x) k ≡ false) (λ x n. other_key same exact (key x) k n) items new)

  pub none_without : (k : K) (items : List T) → HasNoneAt key k (without_item key same k items)
  none_without k items =
      All-weaker (λ x. not (same (key x) k) ≡ true) (λ x. key x ≢ k)
      (λ x e one. both_ways (same (key x) k) (not-true (same (key x) k) e) (exact.here (key x) k one))
      (without_item key same k items) (filter_passes (λ x. not (same (key x) k)) items)

  pub without_middle : (k : K) (xs : List T) (x : T) (ys : List T) → All (λ y. same (key y) k ≡ false) xs → same (key x) k ≡ true → All (λ y. same (key y) k ≡ false) ys → without_item key same k (xs ++ x ∷ ys) ≡ xs ++ ys
  without_middle k xs x ys front e back =
      filter-append (λ y. not (same (key y) k)) xs (x ∷ ys)
      ∙ ap (λ zs. zs ++ without_item key same k (x ∷ ys)) (keep_all k xs front)
      ∙ ap (λ zs. xs ++ zs) (ap (λ (b : Bool). cond b (x ∷ without_item key same k ys) (without_item key same k ys)) (not_from_true (same (key x) k) e) ∙ keep_all k ys back)
