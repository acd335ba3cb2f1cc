-- The items around one of them, in order.
use Rattle.std.proofs.Common.{◌≡◌, ◌≢◌, ◌∙◌, Bool, false, not, cond, List, [], ◌∷◌, ◌++◌, Some, refl, sym, ap, subst, append_assoc}
use Rattle.std.specs.Prelude.{All, IsTrue, if◌then◌else◌}
use Rattle.std.proofs.lemmas.Bool.{not_from_false}
use Rattle.std.proofs.lemmas.List.{append-nil, map-append}
use Rattle.std.proofs.lemmas.List.Elements.{All-cons, All-head, All-tail, All-weaker, filter-append}
use Rattle.summary_tree.specs.Order.{IsStrictOrder, IsExact, AreInOrder, HasNoneAt, below, above, with_item, item_at, without_item, with_replaced}
use Rattle.summary_tree.proofs.Lists.{filter_all, filter_none, find_front, find_back, find_after}
use Rattle.summary_tree.proofs.Pairs.{pairs_front, pairs_back, pairs_across, pairs_head, pairs_tail, All-front, All-back}
use Rattle.summary_tree.proofs.Places.{before-false, not_back, after_from, differs, one_key, other_key, keep_all, without_middle}

module _ {K T : Type 0} (key : T → K) (before : K → K → Bool) where
  abbrev Before : T → T → Type 0
  Before a b = IsTrue (before (key a) (key b))

  pub left_in_order : (xs : List T) (x : T) (ys : List T) → AreInOrder key before (xs ++ x ∷ ys) → AreInOrder key before xs
  left_in_order xs x ys by = pairs_front Before xs (x ∷ ys) by

  pub right_in_order : (xs : List T) (x : T) (ys : List T) → AreInOrder key before (xs ++ x ∷ ys) → AreInOrder key before ys
  right_in_order xs x ys by = pairs_tail Before x ys (pairs_back Before xs (x ∷ ys) by)

  pub sides_in_order : (xs : List T) (x : T) (ys : List T) → AreInOrder key before (xs ++ x ∷ ys) → AreInOrder key before xs × AreInOrder key before ys
  sides_in_order xs x ys by = (left_in_order xs x ys by, right_in_order xs x ys by)

  -- the items before one have lesser keys, and those after it greater ones
  pub earlier : (xs : List T) (x : T) (ys : List T) → AreInOrder key before (xs ++ x ∷ ys) → All (λ y. Before y x) xs
  earlier xs x ys by =
      All-weaker (λ y. All (Before y) (x ∷ ys)) (λ y. Before y x) (λ y h. All-head (Before y) x ys h) xs (pairs_across Before xs (x ∷ ys) by)

  pub later : (xs : List T) (x : T) (ys : List T) → AreInOrder key before (xs ++ x ∷ ys) → All (Before x) ys
  later xs x ys by = pairs_head Before x ys (pairs_back Before xs (x ∷ ys) by)

module _ {K T : Type 0} (key : T → K) where
  pub none_left : (k : K) (xs : List T) (x : T) (ys : List T) → HasNoneAt key k (xs ++ x ∷ ys) → HasNoneAt key k xs
  none_left k xs x ys none = All-front (λ y. key y ≢ k) xs (x ∷ ys) none

  pub none_right : (k : K) (xs : List T) (x : T) (ys : List T) → HasNoneAt key k (xs ++ x ∷ ys) → HasNoneAt key k ys
  none_right k xs x ys none = All-tail (λ y. key y ≢ k) x ys (All-back (λ y. key y ≢ k) xs (x ∷ ys) none)

module _ {K T : Type 0} (key : T → K) (before : K → K → Bool) (order : IsStrictOrder before) where
  -- after an item that comes after a key all items do, and before one that comes before a key all items do
  pub all_after : (k : K) (xs : List T) (x : T) (ys : List T) → AreInOrder key before (xs ++ x ∷ ys) → IsTrue (before k (key x)) → All (λ y. IsTrue (before k (key y))) (x ∷ ys)
  all_after k xs x ys by h =
      All-cons (λ y. IsTrue (before k (key y))) x ys h
      (All-weaker (λ y. IsTrue (before (key x) (key y))) (λ y. IsTrue (before k (key y))) (λ y g. order.transitive k (key x) (key y) h g) ys (later key before xs x ys by))

  pub all_before : (k : K) (xs : List T) (x : T) (ys : List T) → AreInOrder key before (xs ++ x ∷ ys) → IsTrue (before (key x) k) → All (λ y. IsTrue (before (key y) k)) xs
  all_before k xs x ys by h =
      All-weaker (λ y. IsTrue (before (key y) (key x))) (λ y. IsTrue (before (key y) k)) (λ y g. order.transitive (key y) (key x) k g h) xs (earlier key before xs x ys by)

  not_before : (k : K) (items : List T) → All (λ y. IsTrue (before k (key y))) items → All (λ y. before (key y) k ≡ false) items
  not_before k items h = All-weaker (λ y. IsTrue (before k (key y))) (λ y. before (key y) k ≡ false) (λ y g. not_back before order k (key y) g) items h

  -- the items below and above a key, on either side of an item
  below_left : (k : K) (xs : List T) (x : T) (ys : List T) → AreInOrder key before (xs ++ x ∷ ys) → IsTrue (before k (key x)) → below key before k (xs ++ x ∷ ys) ≡ below key before k xs
  below_left k xs x ys by h =
      filter-append (λ y. before (key y) k) xs (x ∷ ys)
      ∙ ap (λ zs. below key before k xs ++ zs) (filter_none (λ y. before (key y) k) (x ∷ ys) (not_before k (x ∷ ys) (all_after k xs x ys by h)))
      ∙ append-nil (below key before k xs)

  above_left : (k : K) (xs : List T) (x : T) (ys : List T) → AreInOrder key before (xs ++ x ∷ ys) → IsTrue (before k (key x)) → above key before k (xs ++ x ∷ ys) ≡ above key before k xs ++ x ∷ ys
  above_left k xs x ys by h =
      filter-append (λ y. before k (key y)) xs (x ∷ ys)
      ∙ ap (λ zs. above key before k xs ++ zs) (filter_all (λ y. before k (key y)) (x ∷ ys) (all_after k xs x ys by h))

  below_right : (k : K) (xs : List T) (x : T) (ys : List T) → AreInOrder key before (xs ++ x ∷ ys) → IsTrue (before (key x) k) → below key before k (xs ++ x ∷ ys) ≡ xs ++ x ∷ below key before k ys
  below_right k xs x ys by h =
      filter-append (λ y. before (key y) k) xs (x ∷ ys)
      ∙ ap (λ zs. zs ++ below key before k (x ∷ ys)) (filter_all (λ y. before (key y) k) xs (all_before k xs x ys by h))
      ∙ ap (λ (b : Bool). xs ++ cond b (x ∷ below key before k ys) (below key before k ys)) h

  -- where the key does not come after that of the item
  above_right : (k : K) (xs : List T) (x : T) (ys : List T) → AreInOrder key before (xs ++ x ∷ ys) → ¬ IsTrue (before k (key x)) → above key before k (xs ++ x ∷ ys) ≡ above key before k ys
  above_right k xs x ys by n =
      filter-append (λ y. before k (key y)) xs (x ∷ ys)
      ∙ ap (λ zs. zs ++ above key before k (x ∷ ys)) (filter_none (λ y. before k (key y)) xs
      (All-weaker (λ y. IsTrue (before (key y) (key x))) (λ y. before k (key y) ≡ false) (λ y g. before-false before order k (key y) (λ h. n (order.transitive k (key y) (key x) h g))) xs (earlier key before xs x ys by)))
      ∙ ap (λ (b : Bool). cond b (x ∷ above key before k ys) (above key before k ys)) (before-false before order k (key x) n)

  -- one more item, on the left of an item and on the right
  pub with_left : (new : T) (xs : List T) (x : T) (ys : List T) → AreInOrder key before (xs ++ x ∷ ys) → IsTrue (before (key new) (key x)) → with_item key before new (xs ++ x ∷ ys) ≡ with_item key before new xs ++ x ∷ ys
  with_left new xs x ys by h =
      ap (λ zs. zs ++ new ∷ above key before (key new) (xs ++ x ∷ ys)) (below_left (key new) xs x ys by h)
      ∙ ap (λ zs. below key before (key new) xs ++ new ∷ zs) (above_left (key new) xs x ys by h)
      ∙ sym (append_assoc (below key before (key new) xs) (new ∷ above key before (key new) xs) (x ∷ ys))

  pub with_right : (new : T) (xs : List T) (x : T) (ys : List T) → AreInOrder key before (xs ++ x ∷ ys) → HasNoneAt key (key new) (xs ++ x ∷ ys) → ¬ IsTrue (before (key new) (key x)) → with_item key before new (xs ++ x ∷ ys) ≡ xs ++ x ∷ with_item key before new ys
  with_right new xs x ys by none n =
      let other = All-head (λ y. key y ≢ key new) x ys (All-back (λ y. key y ≢ key new) xs (x ∷ ys) none) in
      let h : IsTrue (before (key x) (key new)) = after_from before order (key new) (key x) (λ e. other (sym e)) (before-false before order (key new) (key x) n) in
      ap (λ zs. zs ++ new ∷ above key before (key new) (xs ++ x ∷ ys)) (below_right (key new) xs x ys by h)
      ∙ ap (λ zs. (xs ++ x ∷ below key before (key new) ys) ++ new ∷ zs) (above_right (key new) xs x ys by n)
      ∙ append_assoc xs (x ∷ below key before (key new) ys) (new ∷ above key before (key new) ys)

  module _ (same : K → K → Bool) (exact : IsExact same) where
    pub other_before : (k : K) (items : List T) → All (λ y. IsTrue (before (key y) k)) items → All (λ y. same (key y) k ≡ false) items
    other_before k items h =
        All-weaker (λ y. IsTrue (before (key y) k)) (λ y. same (key y) k ≡ false) (λ y g. other_key same exact (key y) k (differs before order (key y) k g)) items h

    pub other_after : (k : K) (items : List T) → All (λ y. IsTrue (before k (key y))) items → All (λ y. same (key y) k ≡ false) items
    other_after k items h =
        All-weaker (λ y. IsTrue (before k (key y))) (λ y. same (key y) k ≡ false) (λ y g. other_key same exact (key y) k (λ e. differs before order k (key y) g (sym e))) items h

    -- the items around one have other keys
    pub other_around : (k : K) (xs : List T) (x : T) (ys : List T) → AreInOrder key before (xs ++ x ∷ ys) → key x ≡ k → All (λ y. same (key y) k ≡ false) xs × All (λ y. same (key y) k ≡ false) ys
    other_around k xs x ys by e = (
      other_before k xs (subst (λ (j : K). All (λ y. IsTrue (before (key y) j)) xs) e (earlier key before xs x ys by)),
      other_after k ys (subst (λ (j : K). All (λ y. IsTrue (before j (key y))) ys) e (later key before xs x ys by)),
    )

    -- the item of a key, on the left of an item, on the right, and the item itself
    pub at_left : (k : K) (xs : List T) (x : T) (ys : List T) → AreInOrder key before (xs ++ x ∷ ys) → IsTrue (before k (key x)) → item_at key same k (xs ++ x ∷ ys) ≡ item_at key same k xs
    at_left k xs x ys by h = find_front (λ y. same (key y) k) xs (x ∷ ys) (other_after k (x ∷ ys) (all_after k xs x ys by h))

    pub at_right : (k : K) (xs : List T) (x : T) (ys : List T) → AreInOrder key before (xs ++ x ∷ ys) → IsTrue (before (key x) k) → item_at key same k (xs ++ x ∷ ys) ≡ item_at key same k ys
    at_right k xs x ys by h =
        find_back (λ y. same (key y) k) xs (x ∷ ys) (other_before k xs (all_before k xs x ys by h))
        ∙ ap (λ (b : Bool). cond b (Some x) (item_at key same k ys)) (other_key same exact (key x) k (differs before order (key x) k h))

    pub at_here : (k : K) (xs : List T) (x : T) (ys : List T) → AreInOrder key before (xs ++ x ∷ ys) → ¬ IsTrue (before k (key x)) → ¬ IsTrue (before (key x) k) → item_at key same k (xs ++ x ∷ ys) ≡ Some x
    at_here k xs x ys by n m =
        let e = one_key before order k (key x) n m in
        find_after (λ y. same (key y) k) xs x ys (other_around k xs x ys by e).0 (exact.here (key x) k e)

    -- the list without the item of a key, on the left of an item, on the right, and without the item itself
    pub without_left : (k : K) (xs : List T) (x : T) (ys : List T) → AreInOrder key before (xs ++ x ∷ ys) → IsTrue (before k (key x)) → without_item key same k (xs ++ x ∷ ys) ≡ without_item key same k xs ++ x ∷ ys
    without_left k xs x ys by h =
        filter-append (λ y. not (same (key y) k)) xs (x ∷ ys)
        ∙ ap (λ zs. without_item key same k xs ++ zs) (keep_all key same exact k (x ∷ ys) (other_after k (x ∷ ys) (all_after k xs x ys by h)))

    pub without_right : (k : K) (xs : List T) (x : T) (ys : List T) → AreInOrder key before (xs ++ x ∷ ys) → IsTrue (before (key x) k) → without_item key same k (xs ++ x ∷ ys) ≡ xs ++ x ∷ without_item key same k ys
    without_right k xs x ys by h =
        filter-append (λ y. not (same (key y) k)) xs (x ∷ ys)
        ∙ ap (λ zs. zs ++ without_item key same k (x ∷ ys)) (keep_all key same exact k xs (other_before k xs (all_before k xs x ys by h)))
        ∙ ap (λ (b : Bool). xs ++ cond b (x ∷ without_item key same k ys) (without_item key same k ys)) (not_from_false (same (key x) k) (other_key same exact (key x) k (differs before order (key x) k h)))

    pub without_here : (k : K) (xs : List T) (x : T) (ys : List T) → AreInOrder key before (xs ++ x ∷ ys) → ¬ IsTrue (before k (key x)) → ¬ IsTrue (before (key x) k) → without_item key same k (xs ++ x ∷ ys) ≡ xs ++ ys
    without_here k xs x ys by n m =
        let e = one_key before order k (key x) n m in
        let around = other_around k xs x ys by e in
        without_middle key same exact k xs x ys around.0 (exact.here (key x) k e) around.1

    -- a replacement of the item of a key, on the left of an item, on the right, and of the item itself
    abbrev in_place_of : T → T → T
    in_place_of new x = if same (key x) (key new) then new else x

    stays : (new x : T) → same (key x) (key new) ≡ false → in_place_of new x ≡ x
    stays new x f = ap (λ (b : Bool). if b then new else x) f

    pub all_stay : (new : T) (items : List T) → All (λ y. same (key y) (key new) ≡ false) items → with_replaced key same new items ≡ items
    all_stay new [] h = refl
    all_stay new (x ∷ xs) h =
        ap (λ y. y ∷ with_replaced key same new xs) (stays new x (All-head (λ y. same (key y) (key new) ≡ false) x xs h))
        ∙ ap (λ ys. x ∷ ys) (all_stay new xs (All-tail (λ y. same (key y) (key new) ≡ false) x xs h))

    pub replaced_left : (new : T) (xs : List T) (x : T) (ys : List T) → AreInOrder key before (xs ++ x ∷ ys) → IsTrue (before (key new) (key x)) → with_replaced key same new (xs ++ x ∷ ys) ≡ with_replaced key same new xs ++ x ∷ ys
    replaced_left new xs x ys by h =
        map-append (in_place_of new) xs (x ∷ ys)
        ∙ ap (λ zs. with_replaced key same new xs ++ zs) (all_stay new (x ∷ ys) (other_after (key new) (x ∷ ys) (all_after (key new) xs x ys by h)))

    pub replaced_right : (new : T) (xs : List T) (x : T) (ys : List T) → AreInOrder key before (xs ++ x ∷ ys) → IsTrue (before (key x) (key new)) → with_replaced key same new (xs ++ x ∷ ys) ≡ xs ++ x ∷ with_replaced key same new ys
    replaced_right new xs x ys by h =
        map-append (in_place_of new) xs (x ∷ ys)
        ∙ ap (λ zs. zs ++ with_replaced key same new (x ∷ ys)) (all_stay new xs (other_before (key new) xs (all_before (key new) xs x ys by h)))
        ∙ ap (λ y. xs ++ y ∷ with_replaced key same new ys) (stays new x (other_key same exact (key x) (key new) (differs before order (key x) (key new) h)))

    pub replaced_at : (new : T) (xs : List T) (x : T) (ys : List T) → AreInOrder key before (xs ++ x ∷ ys) → key x ≡ key new → with_replaced key same new (xs ++ x ∷ ys) ≡ xs ++ new ∷ ys
    replaced_at new xs x ys by e =
        let around = other_around (key new) xs x ys by e in
        map-append (in_place_of new) xs (x ∷ ys)
        ∙ ap (λ zs. zs ++ with_replaced key same new (x ∷ ys)) (all_stay new xs around.0)
        ∙ ap (λ (b : Bool). xs ++ (if b then new else x) ∷ with_replaced key same new ys) (exact.here (key x) (key new) e)
        ∙ ap (λ zs. xs ++ new ∷ zs) (all_stay new ys around.1)

    pub replaced_here : (new : T) (xs : List T) (x : T) (ys : List T) → AreInOrder key before (xs ++ x ∷ ys) → ¬ IsTrue (before (key new) (key x)) → ¬ IsTrue (before (key x) (key new)) → with_replaced key same new (xs ++ x ∷ ys) ≡ xs ++ new ∷ ys
    replaced_here new xs x ys by n m = replaced_at new xs x ys by (one_key before order (key new) (key x) n m)
