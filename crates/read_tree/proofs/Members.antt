-- Which items a list contains: those that a filter keeps, the one that a search finds.
use Rattle.std.proofs.Common.{◌≡◌, ◌⊎◌, inl, inr, zero, suc, Bool, true, false, cond, List, [], ◌∷◌, Some, None, refl, sym, subst, ap, ◌∙◌, filter, arith}
use Rattle.std.specs.Prelude.{Contains}
use Rattle.std.specs.List.{AllByRecursion, find}
use Rattle.std.proofs.lemmas.List.Elements.{Contains-append_left, Contains-append_right, Contains-append_cases}
use Rattle.intervals.specs.declared.ordered_index.Spot.{Spot}
use Rattle.intervals.specs.OrderedIndex.{same_spot}
use Rattle.read_tree.specs.declared.item.RowItem.{RowItem}
use Rattle.read_tree.specs.Items.{AreItemsInOrder, StandsBefore, spot_of_item, present_before, present_following, with_read_item, item_at_spot, in_place_of, renewed}
use Rattle.read_tree.proofs.Order.{trichotomy, same_true, true_same, before_true, apart}

abbrev below : Spot → List RowItem → List RowItem
below spot items = filter (present_before spot) items

abbrev above : Spot → List RowItem → List RowItem
above spot items = filter (present_following spot) items

pub at_first : (m : RowItem) (items : List RowItem) → Contains (m ∷ items) m
at_first m items = (0, omega arith, refl)

pub later : (x : RowItem) (items : List RowItem) (m : RowItem) → Contains items m → Contains (x ∷ items) m
later x items m c = (suc c.0, omega (arith, c.1), c.2)

pub first_or_later : (x : RowItem) (items : List RowItem) (m : RowItem) → Contains (x ∷ items) m → (x ≡ m) ⊎ Contains items m
first_or_later x items m (zero, within, is) = inl is
first_or_later x items m (suc k, within, is) = inr (k, omega (arith, within), is)

pub none_in : (m : RowItem) → ¬ Contains [] m
none_in m c = omega (arith, c.1)

-- what holds of each holds of one
pub each_holds : (P : RowItem → Type 0) (items : List RowItem) (m : RowItem) → AllByRecursion P items → Contains items m → P m
each_holds P [] m a c = absurd (none_in m c)
each_holds P (x ∷ items) m a c = elim (first_or_later x items m c) [ inl same ↦ subst P same a.0 | inr following ↦ each_holds P items m a.1 following ]

module _ (p : RowItem → Bool) where
  kept_at : (x : RowItem) (items : List RowItem) (m : RowItem) (b : Bool) → p x ≡ b → Contains (cond b (x ∷ filter p items) (filter p items)) m
      → (Contains (filter p items) m → Contains items m × (p m ≡ true)) → Contains (x ∷ items) m × (p m ≡ true)
  kept_at x items m true is c rest = elim (first_or_later x (filter p items) m c) [
    | inl same ↦ (subst (Contains (x ∷ items)) same (at_first x items), ap p (sym same) ∙ is)
    | inr following ↦ let kept = rest following in (later x items m kept.0, kept.1)
  ]
  kept_at x items m false is c rest = let kept = rest c in (later x items m kept.0, kept.1)

  pub kept_from : (items : List RowItem) (m : RowItem) → Contains (filter p items) m → Contains items m × (p m ≡ true)
  kept_from [] m c = absurd (none_in m c)
  kept_from (x ∷ items) m c = kept_at x items m (p x) refl c (kept_from items m)

  stays_kept : (x : RowItem) (items : List RowItem) (m : RowItem) → Contains (filter p items) m → Contains (filter p (x ∷ items)) m
  stays_kept x items m c = elim (p x) as (λ b. Contains (cond b (x ∷ filter p items) (filter p items)) m) [ true ↦ later x (filter p items) m c | false ↦ c ]

  pub kept_in : (items : List RowItem) (m : RowItem) → Contains items m → p m ≡ true → Contains (filter p items) m
  kept_in [] m c pass = absurd (none_in m c)
  kept_in (x ∷ items) m c pass = elim (first_or_later x items m c) [
    | inl same ↦ let passes : p x ≡ true = ap p same ∙ pass in rw passes (subst (Contains (x ∷ filter p items)) same (at_first x (filter p items)))
    | inr following ↦ stays_kept x items m (kept_in items m following pass)
  ]

  found_at : (x : RowItem) (items : List RowItem) (m : RowItem) (b : Bool) → p x ≡ b → cond b (Some x) (find p items) ≡ Some m
      → (find p items ≡ Some m → Contains items m × (p m ≡ true)) → Contains (x ∷ items) m × (p m ≡ true)
  found_at x items m true is found rest = let same : x ≡ m = cc in (subst (Contains (x ∷ items)) same (at_first x items), ap p (sym same) ∙ is)
  found_at x items m false is found rest = let kept = rest found in (later x items m kept.0, kept.1)

  pub found_present : (items : List RowItem) (m : RowItem) → find p items ≡ Some m → Contains items m × (p m ≡ true)
  found_present [] m found = absurd (cc)
  found_present (x ∷ items) m found = found_at x items m (p x) refl found (found_present items m)

  passes_not : (x : RowItem) (items : List RowItem) (b : Bool) → cond b (Some x) (find p items) ≡ None → (b ≡ false) × (find p items ≡ None)
  passes_not x items true none = absurd (cc)
  passes_not x items false none = (refl, none)

  pub none_present : (items : List RowItem) → find p items ≡ None → (m : RowItem) → Contains items m → p m ≡ false
  none_present [] none m c = absurd (none_in m c)
  none_present (x ∷ items) none m c = elim (first_or_later x items m c) [
    | inl same ↦ ap p (sym same) ∙ (passes_not x items (p x) none).0
    | inr following ↦ none_present items (passes_not x items (p x) none).1 m following
  ]

  pub none_found_where : (items : List RowItem) → ((m : RowItem) → Contains items m → p m ≡ false) → find p items ≡ None
  none_found_where [] none = refl
  none_found_where (x ∷ items) none = rw (none x (at_first x items)) (none_found_where items (λ m c. none m (later x items m c)))

  found_here : (x : RowItem) (items : List RowItem) (m : RowItem) → x ≡ m → p m ≡ true → find p (x ∷ items) ≡ Some m
  found_here x items m is h = let passes : p x ≡ true = ap p is ∙ h in rw passes (ap (λ (y : RowItem). Some y) is)

  found_after : (x : RowItem) (items : List RowItem) (m : RowItem) → p x ≡ false → find p items ≡ Some m → find p (x ∷ items) ≡ Some m
  found_after x items m h rest = rw h rest

some_one : (m n : RowItem) → Some m ≡ Some n → m ≡ n
some_one m n h = cc

-- a list with a new item contains that one and those that it had
module _ (new : RowItem) (items : List RowItem) where
  pub new_or_old : (m : RowItem) → Contains (with_read_item new items) m → (m ≡ new) ⊎ Contains items m
  new_or_old m c = elim (Contains-append_cases (below (spot_of_item new) items) (new ∷ above (spot_of_item new) items) m c) [
    | inl before ↦ inr (kept_from (present_before (spot_of_item new)) items m before).0
    | inr following ↦ elim (first_or_later new (above (spot_of_item new) items) m following) [
      | inl same ↦ inl (sym same)
      | inr after ↦ inr (kept_from (present_following (spot_of_item new)) items m after).0
    ]
  ]

  pub new_present : Contains (with_read_item new items) new
  new_present = Contains-append_right (below (spot_of_item new) items) (new ∷ above (spot_of_item new) items) new (at_first new (above (spot_of_item new) items))

  pub old_present : item_at_spot (spot_of_item new) items ≡ None → (m : RowItem) → Contains items m → Contains (with_read_item new items) m
  old_present none m c = elim (trichotomy (spot_of_item m) (spot_of_item new)) [
    | inl same ↦
        let is = true_same (spot_of_item m) (spot_of_item new) same in
        let other = none_present (λ y. same_spot (spot_of_item y) (spot_of_item new)) items none m c in
        absurd (cc)
    | inr either ↦ elim either [
      | inl before ↦ Contains-append_left (below (spot_of_item new) items) (new ∷ above (spot_of_item new) items) m
          (kept_in (present_before (spot_of_item new)) items m c (before_true (spot_of_item m) (spot_of_item new) before))
      | inr following ↦ Contains-append_right (below (spot_of_item new) items) (new ∷ above (spot_of_item new) items) m
          (later new (above (spot_of_item new) items) m (kept_in (present_following (spot_of_item new)) items m c (before_true (spot_of_item new) (spot_of_item m) following)))
    ]
  ]

-- an item is found by its spot
pub found_by_spot : (spot : Spot) (items : List RowItem) (m : RowItem) → AreItemsInOrder items → Contains items m → same_spot (spot_of_item m) spot ≡ true → item_at_spot spot items ≡ Some m
found_by_spot spot [] m order c same = absurd (none_in m c)
found_by_spot spot (x ∷ items) m order c same = elim (first_or_later x items m c) [
  | inl is ↦ found_here (λ y. same_spot (spot_of_item y) spot) x items m is same
  | inr following ↦
      let before : StandsBefore (spot_of_item x) (spot_of_item m) = each_holds (λ y. StandsBefore (spot_of_item x) (spot_of_item y)) items m order.0 following in
      found_after (λ y. same_spot (spot_of_item y) spot) x items m
      (apart (spot_of_item x) spot (subst (λ s. StandsBefore (spot_of_item x) s) (same_true (spot_of_item m) spot same) before))
      (found_by_spot spot items m order.1 following same)
]

-- two items at one spot are one
pub one_of_a_spot : (items : List RowItem) (m n : RowItem) → AreItemsInOrder items → Contains items m → Contains items n → spot_of_item m ≡ spot_of_item n → m ≡ n
one_of_a_spot items m n order c d same =
    let first = found_by_spot (spot_of_item n) items m order c (true_same (spot_of_item m) (spot_of_item n) same) in
    let second = found_by_spot (spot_of_item n) items n order d (true_same (spot_of_item n) (spot_of_item n) refl) in
    some_one m n (sym first ∙ second)

-- which items a list contains once one is renewed
module _ (new : RowItem) where
  renewed_at : (y : RowItem) (x : RowItem) → in_place_of new y ≡ x → (b : Bool) → same_spot (spot_of_item y) (spot_of_item new) ≡ b → cond b new y ≡ x
  renewed_at y x e true t = sym (ap (λ b. cond b new y) t) ∙ e
  renewed_at y x e false f = sym (ap (λ b. cond b new y) f) ∙ e

  abbrev pub IsRenewedIn : List RowItem → RowItem → Type 0
  IsRenewedIn items x = (Contains items x × (same_spot (spot_of_item x) (spot_of_item new) ≡ false)) ⊎ ((x ≡ new) × ((old : RowItem) × Contains items old × (same_spot (spot_of_item old) (spot_of_item new) ≡ true)))

  more : (y : RowItem) (items : List RowItem) (x : RowItem) → IsRenewedIn items x → IsRenewedIn (y ∷ items) x
  more y items x (inl (h, f)) = inl (later y items x h, f)
  more y items x (inr (e, was)) = let (old, h, t) = was in inr (e, (old, later y items old h, t))

  pub renewed_from : (items : List RowItem) (x : RowItem) → Contains (renewed new items) x → IsRenewedIn items x
  renewed_from [] x c = absurd (none_in x c)
  renewed_from (y ∷ items) x c = elim (first_or_later (in_place_of new y) (renewed new items) x c) [
    | inl same ↦ by_spot (same_spot (spot_of_item y) (spot_of_item new)) refl same
    | inr following ↦ more y items x (renewed_from items x following)
  ]
    where
      by_spot : (b : Bool) → same_spot (spot_of_item y) (spot_of_item new) ≡ b → in_place_of new y ≡ x → IsRenewedIn (y ∷ items) x
      by_spot true t e = inr (sym (renewed_at y x e true t), (y, at_first y items, t))
      by_spot false f e = let is : y ≡ x = renewed_at y x e false f in inl (subst (λ z. Contains (y ∷ items) z × (same_spot (spot_of_item z) (spot_of_item new) ≡ false)) is (at_first y items, f))

  pub stays_in : (items : List RowItem) (x : RowItem) → Contains items x → same_spot (spot_of_item x) (spot_of_item new) ≡ false → Contains (renewed new items) x
  stays_in [] x c f = absurd (none_in x c)
  stays_in (y ∷ items) x c f = elim (first_or_later y items x c) [
    | inl same ↦ subst (λ z. Contains (in_place_of new y ∷ renewed new items) z) (ap (in_place_of new) same ∙ ap (λ b. cond b new x) f) (at_first (in_place_of new y) (renewed new items))
    | inr following ↦ later (in_place_of new y) (renewed new items) x (stays_in items x following f)
  ]

  pub renewed_in : (items : List RowItem) (old : RowItem) → Contains items old → same_spot (spot_of_item old) (spot_of_item new) ≡ true → Contains (renewed new items) new
  renewed_in [] old c t = absurd (none_in old c)
  renewed_in (y ∷ items) old c t = elim (first_or_later y items old c) [
    | inl same ↦ subst (λ z. Contains (in_place_of new y ∷ renewed new items) z) (ap (in_place_of new) same ∙ ap (λ b. cond b new old) t) (at_first (in_place_of new y) (renewed new items))
    | inr following ↦ later (in_place_of new y) (renewed new items) new (renewed_in items old following t)
  ]
