-- A list without one of its items, and with an item in the place of another.
use Rattle.std.proofs.Common.{◌≡◌, ◌∙◌, ◌⊎◌, inl, inr, ◌+◌, Bool, true, false, List, [], ◌∷◌, ◌++◌, length, Some, refl, sym, ap, subst, arith}
use Rattle.std.specs.Prelude.{All, IsTrue, if◌then◌else◌}
use Rattle.std.specs.List.Sorted.{IsPermutation}
use Rattle.std.proofs.lemmas.Bool.{cases_Bool}
use Rattle.std.proofs.lemmas.List.Elements.{All-cons, All-head, All-tail}
use Rattle.std.proofs.lemmas.List.Sorted.{IsPermutation-middle, length_permutation}
use Rattle.summary_tree.specs.Order.{IsStrictOrder, IsExact, AreInOrder, above, with_item, item_at, without_item, with_replaced}
use Rattle.summary_tree.proofs.Lists.{found}
use Rattle.summary_tree.proofs.Pairs.{pairs_nil, pairs_head, pairs_tail, pairs_cons}
use Rattle.summary_tree.proofs.Places.{below_parts, above_parts, without_middle}
use Rattle.summary_tree.proofs.Sides.{earlier, later, other_around, replaced_at}

module _ {K T : Type 0} (key : T → K) (before same : K → K → Bool) (order : IsStrictOrder before) (exact : IsExact same) where
  abbrev Before : T → T → Type 0
  Before a b = IsTrue (before (key a) (key b))

  -- the items around the one of a key, and the list without it
  record IsParted (k : K) (items : List T) (x : T) : Type 0 where
    front : List T
    back : List T
    parts : items ≡ front ++ x ∷ back
    by : AreInOrder key before (front ++ x ∷ back)
    one : key x ≡ k
    others : without_item key same k items ≡ front ++ back

  parted : (k : K) (items : List T) (x : T) → AreInOrder key before items → item_at key same k items ≡ Some x → IsParted k items x
  parted k items x by e =
      let is = found (λ y. same (key y) k) items x e in
      let order_there = subst (AreInOrder key before) is.parts by in
      let one = exact.one (key x) k is.passes in
      let around = other_around key before order same exact k is.front x is.back order_there one in
      record {
        front = is.front;
        back = is.back;
        parts = is.parts;
        by = order_there;
        one = one;
        others = ap (without_item key same k) is.parts ∙ without_middle key same exact k is.front x is.back around.0 is.passes around.1;
      }

  pub members_without : (k : K) (items : List T) (x : T) → AreInOrder key before items → item_at key same k items ≡ Some x → IsPermutation items (x ∷ without_item key same k items)
  members_without k items x by e =
      let is = parted k items x by e in
      subst (λ zs. IsPermutation zs (x ∷ without_item key same k items)) (sym is.parts)
      (subst (λ zs. IsPermutation (is.front ++ x ∷ is.back) (x ∷ zs)) (sym is.others) (IsPermutation-middle is.front x is.back))

  pub count_without : (k : K) (items : List T) (x : T) → AreInOrder key before items → item_at key same k items ≡ Some x → length items ≡ length (without_item key same k items) + 1
  count_without k items x by e = omega (arith, length_permutation items (x ∷ without_item key same k items) (members_without k items x by e))

  -- to replace an item is to take it out and to put the new one in
  pub replaced_anew : (new : T) (items : List T) (x : T) → AreInOrder key before items → item_at key same (key new) items ≡ Some x → with_item key before new (without_item key same (key new) items) ≡ with_replaced key same new items
  replaced_anew new items x by e =
      let is = parted (key new) items x by e in
      let less = subst (λ (k : K). All (λ y. IsTrue (before (key y) k)) is.front) is.one (earlier key before is.front x is.back is.by) in
      let more = subst (λ (k : K). All (λ y. IsTrue (before k (key y))) is.back) is.one (later key before is.front x is.back is.by) in
      ap (with_item key before new) is.others
      ∙ ap (λ zs. zs ++ new ∷ above key before (key new) (is.front ++ is.back)) (below_parts key before order (key new) is.front is.back less more)
      ∙ ap (λ zs. is.front ++ new ∷ zs) (above_parts key before order (key new) is.front is.back less more)
      ∙ sym (ap (with_replaced key same new) is.parts ∙ replaced_at key before order same exact new is.front x is.back is.by is.one)

  -- a replacement keeps the keys
  abbrev in_place_of : T → T → T
  in_place_of new x = if same (key x) (key new) then new else x

  key_stays_by : (new x : T) → (same (key x) (key new) ≡ true) ⊎ (same (key x) (key new) ≡ false) → key (in_place_of new x) ≡ key x
  key_stays_by new x (inl t) = ap (λ (b : Bool). key (if b then new else x)) t ∙ sym (exact.one (key x) (key new) t)
  key_stays_by new x (inr f) = ap (λ (b : Bool). key (if b then new else x)) f

  key_stays : (new x : T) → key (in_place_of new x) ≡ key x
  key_stays new x = key_stays_by new x (cases_Bool (same (key x) (key new)))

  all_following : (new : T) (k : K) (items : List T) → All (λ y. IsTrue (before k (key y))) items → All (λ y. IsTrue (before k (key y))) (with_replaced key same new items)
  all_following new k [] h = h
  all_following new k (x ∷ xs) h =
      All-cons (λ y. IsTrue (before k (key y))) (in_place_of new x) (with_replaced key same new xs)
      (subst (λ (j : K). IsTrue (before k j)) (sym (key_stays new x)) (All-head (λ y. IsTrue (before k (key y))) x xs h))
      (all_following new k xs (All-tail (λ y. IsTrue (before k (key y))) x xs h))

  pub order_replaced : (new : T) (items : List T) → AreInOrder key before items → AreInOrder key before (with_replaced key same new items)
  order_replaced new [] by = pairs_nil Before
  order_replaced new (x ∷ xs) by =
      pairs_cons Before (in_place_of new x) (with_replaced key same new xs)
      (subst (λ (j : K). All (λ y. IsTrue (before j (key y))) (with_replaced key same new xs)) (sym (key_stays new x)) (all_following new (key x) xs (pairs_head Before x xs by)))
      (order_replaced new xs (pairs_tail Before x xs by))

  pub count_replaced : (new : T) (items : List T) → length (with_replaced key same new items) ≡ length items
  count_replaced new [] = refl
  count_replaced new (x ∷ xs) = omega (arith, count_replaced new xs)
