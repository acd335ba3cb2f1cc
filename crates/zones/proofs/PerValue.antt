-- A tree with an item for each value of a set, and no others: what is taken out of it and put in.
use Rattle.std.proofs.Common.{◌≡◌, ◌≢◌, ◌⊎◌, inl, inr, Bool, true, false, not, List, [], ◌∷◌, Option, Some, None, refl, sym, ap, ◌∙◌, subst, cond}
use Rattle.std.specs.Prelude.{Contains, IsSome, IsNone, IsTrue, IfSome, is_some}
use Rattle.std.proofs.lemmas.Bool.{both_ways, not-true, not_from_false, false_from_ne_true}
use Rattle.std.proofs.lemmas.Bool.Decides.{not_from_Decides}
use Rattle.std.proofs.lemmas.List.Elements.{All-contains, Contains-append_left, Contains-append_right, Contains-append_cases}
use Rattle.intervals.specs.declared.operation.Op.{Op}
use Rattle.intervals.specs.declared.operation.Value.{Value}
use Rattle.intervals.specs.Operation.{same_value, value_of}
use Rattle.summary_tree.specs.Order.{HasNoneAt, IsExact, IsStrictOrder, above, below, item_at, with_item}
use Rattle.zones.specs.Moves.{AreChanges, AreNew, IsChangeAt, IsNew, KeepsRoom, Shape, IsThere, moved, with, without}
use Rattle.zones.specs.Zoned.{other_value, value_in}
use Rattle.zones.proofs.Members.{Decides-same_value, in_none, value_cases, here, there, contains_cases, kept, kept_present, all_from}

module _ {T K : Type 0} (shape : Shape T K) (order : IsStrictOrder shape.before) where
  abbrev key : T → K
  key = shape.key

  -- with an item of a new key the list has that item, and those at other keys
  present_with : (item : T) (items : List T) → HasNoneAt key (key item) items → (x : T) → Contains items x → Contains (with_item key shape.before item items) x
  present_with item items new x h = by_cases (order.total (key x) (key item))
    where
      by_cases : IsTrue (shape.before (key x) (key item)) ⊎ ((key x ≡ key item) ⊎ IsTrue (shape.before (key item) (key x))) → Contains (with_item key shape.before item items) x
      by_cases (inl p) = Contains-append_left (below key shape.before (key item) items) (item ∷ above key shape.before (key item) items) x (kept (λ y. shape.before (key y) (key item)) items x h p)
      by_cases (inr (inl e)) = absurd (All-contains (λ y. key y ≢ key item) items x new h e)
      by_cases (inr (inr p)) = Contains-append_right (below key shape.before (key item) items) (item ∷ above key shape.before (key item) items) x (there item (above key shape.before (key item) items) x (kept (λ y. shape.before (key item) (key y)) items x h p))

  comes_with : (item : T) (items : List T) → Contains (with_item key shape.before item items) item
  comes_with item items = Contains-append_right (below key shape.before (key item) items) (item ∷ above key shape.before (key item) items) item (here item (above key shape.before (key item) items))

  from_with : (item : T) (items : List T) (x : T) → Contains (with_item key shape.before item items) x → (item ≡ x) ⊎ Contains items x
  from_with item items x h = by_cases (Contains-append_cases (below key shape.before (key item) items) (item ∷ above key shape.before (key item) items) x h)
    where
      by_later : (item ≡ x) ⊎ Contains (above key shape.before (key item) items) x → (item ≡ x) ⊎ Contains items x
      by_later (inl e) = inl e
      by_later (inr k) = inr (kept_present (λ y. shape.before (key item) (key y)) items x k).0

      by_cases : Contains (below key shape.before (key item) items) x ⊎ Contains (item ∷ above key shape.before (key item) items) x → (item ≡ x) ⊎ Contains items x
      by_cases (inl k) = inr (kept_present (λ y. shape.before (key y) (key item)) items x k).0
      by_cases (inr k) = by_later (contains_cases item (above key shape.before (key item) items) x k)

-- an item of the tree is found at its key
module _ {T K : Type 0} (key : T → K) (same : K → K → Bool) (exact : IsExact same) where
  pub found_standing : (items : List T) (item : T) (k : K) → Contains items item → key item ≡ k → IsSome (item_at key same k items)
  found_standing [] item k h e = absurd (in_none item h)
  found_standing (x ∷ items) item k h e = by_cases (same (key x) k) refl (contains_cases x items item h) (λ c. found_standing items item k c e)
    where
      by_cases : (t : Bool) → same (key x) k ≡ t → (x ≡ item) ⊎ Contains items item → (Contains items item → IsSome (item_at key same k items)) → IsSome (cond t (Some x) (item_at key same k items))
      by_cases true t h later = refl
      by_cases false t (inl s) later = absurd (both_ways (same (key x) k) t (exact.here (key x) k (ap key s ∙ e)))
      by_cases false t (inr c) later = later c

-- the value is the optional one
abbrev pub Is : Option Value → Value → Type 0
Is None v = ⊥
Is (Some u) v = v ≡ u

is_cases : (u : Option Value) (v : Value) → Is u v ⊎ ¬ Is u v
is_cases None v = inr (λ n. n)
is_cases (Some u) v = value_cases v u

-- a value is the first or the other of two optional values, and not both
other_apart : (first second : Option Value) (v : Value) → Is first v → ¬ Is (other_value first second) v
other_apart None second v e = absurd e
other_apart (Some u) None v e = λ f. f
other_apart (Some u) (Some w) v e = by_cases (same_value u w) refl
  where
    by_cases : (t : Bool) → same_value u w ≡ t → ¬ Is (cond t None (Some w)) v
    by_cases true t f = f
    by_cases false t f = not_from_Decides (same_value u w) (Decides-same_value u w) t (sym e ∙ f)

other_covers : (first second : Option Value) (v : Value) → Is second v → Is first v ⊎ Is (other_value first second) v
other_covers None second v e = inr e
other_covers (Some u) None v e = inr e
other_covers (Some u) (Some w) v e = by_cases (same_value u w) refl
  where
    by_cases : (t : Bool) → same_value u w ≡ t → (v ≡ u) ⊎ Is (cond t None (Some w)) v
    by_cases true t = inl (e ∙ sym ((Decides-same_value u w).0 t))
    by_cases false t = inr e

is_value_in : (op : Option Op) (x : Op) (v : Value) → op ≡ Some x → value_of x.act ≡ v → Is (value_in op) v
is_value_in op x v e f = subst (λ (o : Option Op). Is (value_in o) v) (sym e) (sym f)

-- the items of a set of values: each has its own value and may be in the tree, and no two have one key
pub record StandForValues {T K : Type 0} (shape : Shape T K) (Has : Value → Type 0) (of : Value → T) : Type 0 where
  pub value : (v : Value) → shape.value (of v) ≡ v
  pub may_stand : (v : Value) → shape.MayStand (of v)
  pub one_key : (u v : Value) → Has u → Has v → shape.key (of u) ≡ shape.key (of v) → u ≡ v

-- a tree has the items of the set, without those of the values that are out, and no others
pub record HasItemsBut {T K : Type 0} (shape : Shape T K) (Has : Value → Type 0) (of : Value → T) (Out : Value → Type 0) (items : List T) : Type 0 where
  pub each : (v : Value) → Has v → ¬ Out v → Contains items (of v)
  pub only : (x : T) → Contains items x → Has (shape.value x) × ¬ Out (shape.value x) × (x ≡ of (shape.value x))

-- the item of the value, where the set has that
pub record IsItemFor {T : Type 0} (Has : Value → Type 0) (of : Value → T) (value : Value) (found : Option T) : Type 0 where
  pub item : IfSome found (λ item. item ≡ of value)
  pub none : IsNone found → ¬ Has value
  pub some : IsSome found → Has value

-- the optional item is that of the optional value; none where there is no value
abbrev pub IsItemForSome : {T : Type 0} → (Has : Value → Type 0) (of : Value → T) → Option Value → Option T → Type 0
IsItemForSome Has of None found = found ≡ None
IsItemForSome Has of (Some value) found = IsItemFor Has of value found

module _ {T K : Type 0} (shape : Shape T K) (order : IsStrictOrder shape.before) (exact : IsExact shape.same) (Has : Value → Type 0) (of : Value → T) (stand : StandForValues shape Has of) where
  -- an item of the tree that has the key of a value's item is that item
  same_key : (Out : Value → Type 0) (items : List T) → HasItemsBut shape Has of Out items → (u : Value) → Has u → (x : T) → Contains items x → shape.key x ≡ shape.key (of u) → shape.value x ≡ u
  same_key Out items tree u has x h e =
      let (present, out, is) = tree.only x h in
      stand.one_key (shape.value x) u present has (sym (ap shape.key is) ∙ e)

  take_one : (Out : Value → Type 0) (items : List T) → HasItemsBut shape Has of Out items → (u : Value) (found : Option T) → IsItemFor Has of u found → HasItemsBut shape Has of (λ v. Out v ⊎ (v ≡ u)) (without shape found items)
  take_one Out items tree u None is = record {
    each = λ v has out. tree.each v has (λ o. out (inl o));
    only = λ x h. let (has, out, e) = tree.only x h in (has, still_out (shape.value x) has out, e);
  }
    where
      still_out : (v : Value) → Has v → ¬ Out v → ¬ (Out v ⊎ (v ≡ u))
      still_out v has out (inl o) = out o
      still_out v has out (inr e) = is.none refl (subst Has e has)
  take_one Out items tree u (Some gone) is = record {
    each = λ v has out. kept (λ x. not (shape.same (shape.key x) (shape.key gone))) items (of v) (tree.each v has (λ o. out (inl o)))
        (not_from_false (shape.same (shape.key (of v)) (shape.key gone)) (false_from_ne_true (shape.same (shape.key (of v)) (shape.key gone)) (λ t.
        out (inr (stand.one_key v u has (is.some refl) (exact.one (shape.key (of v)) (shape.key gone) t ∙ ap shape.key is.item))))));
    only = λ x h. let (k, t) = kept_present (λ x. not (shape.same (shape.key x) (shape.key gone))) items x h in let (has, out, e) = tree.only x k in (has, still_out x t out e, e);
  }
    where
      still_out : (x : T) → not (shape.same (shape.key x) (shape.key gone)) ≡ true → ¬ Out (shape.value x) → x ≡ of (shape.value x) → ¬ (Out (shape.value x) ⊎ (shape.value x ≡ u))
      still_out x t out e (inl o) = out o
      still_out x t out e (inr f) =
          let same : shape.key x ≡ shape.key gone = ap shape.key e ∙ (ap (λ (v : Value). shape.key (of v)) f ∙ sym (ap shape.key is.item)) in
          both_ways (shape.same (shape.key x) (shape.key gone)) (not-true (shape.same (shape.key x) (shape.key gone)) t) (exact.here (shape.key x) (shape.key gone) same)

  take_some : (Out : Value → Type 0) (items : List T) → HasItemsBut shape Has of Out items → (u : Option Value) (found : Option T) → IsItemForSome Has of u found → HasItemsBut shape Has of (λ v. Out v ⊎ Is u v) (without shape found items)
  take_some Out items tree (Some u) found is = take_one Out items tree u found is
  take_some Out items tree None found is = subst (λ (f : Option T). HasItemsBut shape Has of (λ v. Out v ⊎ Is None v) (without shape f items)) (sym is) (record {
    each = λ v has out. tree.each v has (λ o. out (inl o));
    only = λ x h. let (has, out, e) = tree.only x h in (has, still_out (shape.value x) out, e);
  })
    where
      still_out : (v : Value) → ¬ Out v → ¬ (Out v ⊎ Is None v)
      still_out v out (inl o) = out o
      still_out v out (inr n) = n

  -- an item of a value that is out is new
  new_one : (Out : Value → Type 0) (items : List T) → HasItemsBut shape Has of Out items → (u : Value) (found : Option T) → IsItemFor Has of u found → Out u → IsNew shape items found
  new_one Out items tree u None is out = record { key = tt; may_stand = tt }
  new_one Out items tree u (Some come) is out = record {
    key = all_from (λ x. shape.key x ≢ shape.key come) items (λ x h e.
        let (has, in_tree, same) = tree.only x h in
        in_tree (subst Out (sym (same_key Out items tree u (is.some refl) x h (e ∙ ap shape.key is.item))) out));
    may_stand = subst shape.MayStand (sym is.item) (stand.may_stand u);
  }

  new_some : (Out : Value → Type 0) (items : List T) → HasItemsBut shape Has of Out items → (u : Option Value) (found : Option T) → IsItemForSome Has of u found → ((v : Value) → Is u v → Out v) → IsNew shape items found
  new_some Out items tree (Some u) found is out = new_one Out items tree u found is (out u refl)
  new_some Out items tree None found is out = subst (IsNew shape items) (sym is) (record { key = tt; may_stand = tt })

  -- where fewer values are out: all but that of the item that comes
  module _ (Out Less : Value → Type 0) (items : List T) (tree : HasItemsBut shape Has of Out items) (less : (v : Value) → Less v → Out v) where
    put_one : (u : Value) (found : Option T) → IsItemFor Has of u found → ((v : Value) → v ≡ u → ¬ Less v) → ((v : Value) → Out v → (v ≡ u) ⊎ Less v) → Out u → HasItemsBut shape Has of Less (with shape found items)
    put_one u None is come more out = record {
      each = λ v has in_tree. tree.each v has (λ o. by_cases v has in_tree (more v o));
      only = λ x h. let (has, in_tree, e) = tree.only x h in (has, (λ l. in_tree (less (shape.value x) l)), e);
    }
      where
        by_cases : (v : Value) → Has v → ¬ Less v → (v ≡ u) ⊎ Less v → ⊥
        by_cases v has in_tree (inl e) = is.none refl (subst Has e has)
        by_cases v has in_tree (inr l) = in_tree l
    put_one u (Some item) is come more out = record {
      each = λ v has in_tree. by_value v has in_tree (value_cases v u);
      only = λ x h. by_item x (from_with shape order item items x h);
    }
      where
        new : HasNoneAt shape.key (shape.key item) items
        new = (new_one Out items tree u (Some item) is out).key

        by_cases : (v : Value) → ¬ Less v → v ≢ u → (v ≡ u) ⊎ Less v → ⊥
        by_cases v in_tree n (inl e) = n e
        by_cases v in_tree n (inr l) = in_tree l

        by_value : (v : Value) → Has v → ¬ Less v → (v ≡ u) ⊎ (v ≢ u) → Contains (with_item shape.key shape.before item items) (of v)
        by_value v has in_tree (inl e) = subst (λ (x : T). Contains (with_item shape.key shape.before item items) x) (is.item ∙ ap of (sym e)) (comes_with shape order item items)
        by_value v has in_tree (inr n) = present_with shape order item items new (of v) (tree.each v has (λ o. by_cases v in_tree n (more v o)))

        value : shape.value item ≡ u
        value = ap shape.value is.item ∙ stand.value u

        by_item : (x : T) → (item ≡ x) ⊎ Contains items x → Has (shape.value x) × ¬ Less (shape.value x) × (x ≡ of (shape.value x))
        by_item x (inl e) =
            let at : shape.value x ≡ u = ap shape.value (sym e) ∙ value in
            (subst Has (sym at) (is.some refl), come (shape.value x) at, sym e ∙ (is.item ∙ ap of (sym at)))
        by_item x (inr k) = let (has, in_tree, e) = tree.only x k in (has, (λ l. in_tree (less (shape.value x) l)), e)

    put_some : (u : Option Value) (found : Option T) → IsItemForSome Has of u found → ((v : Value) → Is u v → ¬ Less v) → ((v : Value) → Out v → Is u v ⊎ Less v) → ((v : Value) → Is u v → Out v) → HasItemsBut shape Has of Less (with shape found items)
    put_some (Some u) found is come more out = put_one u found is come more (out u refl)
    put_some None found is come more out = subst (λ (f : Option T). HasItemsBut shape Has of Less (with shape f items)) (sym is) (record {
      each = λ v has in_tree. tree.each v has (λ o. by_cases v in_tree (more v o));
      only = λ x h. let (has, in_tree, e) = tree.only x h in (has, (λ l. in_tree (less (shape.value x) l)), e);
    })
      where
        by_cases : (v : Value) → ¬ Less v → ⊥ ⊎ Less v → ⊥
        by_cases v in_tree (inl n) = n
        by_cases v in_tree (inr l) = in_tree l

-- neither what goes nor what comes has the value
pub record IsUntouched (old new : Option Op) (v : Value) : Type 0 where
  pub by_old : (op : Op) → old ≡ Some op → value_of op.act ≢ v
  pub by_new : (op : Op) → new ≡ Some op → value_of op.act ≢ v

-- the value keeps its item, or has none before and after
pub record KeepsItem {T : Type 0} (Had Has : Value → Type 0) (was is : Value → T) (v : Value) : Type 0 where
  pub still : Had v → Has v
  pub stood : Has v → Had v
  pub same : Had v → was v ≡ is v

-- items of two values go and come; all other values keep theirs
pub record AreMoves {T : Type 0} (Had Has : Value → Type 0) (was is : Value → T) (first second : Option Value) (gone come : Option T × Option T) : Type 0 where
  pub gone_first : IsItemForSome Had was first gone.0
  pub gone_second : IsItemForSome Had was second gone.1
  pub come_first : IsItemForSome Has is first come.0
  pub come_second : IsItemForSome Has is second come.1
  pub apart : (v : Value) → Is first v → ¬ Is second v
  pub others : (v : Value) → ¬ Is first v → ¬ Is second v → KeepsItem Had Has was is v

-- what goes and comes at a value, or that it keeps its item
pub record IsMoveAt {T : Type 0} (Had Has : Value → Type 0) (was is : Value → T) (u : Option Value) (gone come : Option T) : Type 0 where
  pub at : Option Value
  pub within : (v : Value) → Is at v → Is u v
  pub gone_at : IsItemForSome Had was at gone
  pub come_at : IsItemForSome Has is at come
  pub kept_at : (v : Value) → Is u v → ¬ Is at v → KeepsItem Had Has was is v

module _ {T : Type 0} (Had Has : Value → Type 0) (was is : Value → T) where
  unmoved : (u : Option Value) (before after : Option T) → IsItemForSome Had was u before → IsItemForSome Has is u after → before ≡ after → (v : Value) → Is u v → KeepsItem Had Has was is v
  unmoved None before after old new same v h = absurd h
  unmoved (Some u) None after old new same v h = record {
    still = λ had. absurd (old.none refl (subst Had h had));
    stood = λ has. absurd ((subst (IsItemFor Has is u) (sym same) new).none refl (subst Has h has));
    same = λ had. absurd (old.none refl (subst Had h had));
  }
  unmoved (Some u) (Some x) after old new same v h =
      let at : IsItemFor Has is u (Some x) = subst (IsItemFor Has is u) (sym same) new in
      record {
        still = λ had. subst Has (sym h) (at.some refl);
        stood = λ has. subst Had (sym h) (old.some refl);
        same = λ had. ap was h ∙ (sym old.item ∙ (at.item ∙ ap is (sym h)));
      }

  move_at : (u : Option Value) (before after : Option T) (change : Option T × Option T) → IsItemForSome Had was u before → IsItemForSome Has is u after → IsChangeAt before after change
      → IsMoveAt Had Has was is u change.0 change.1
  move_at u before after change old new (inl e) = record {
    at = u;
    within = λ v h. h;
    gone_at = subst (IsItemForSome Had was u) (sym (ap (λ (p : Option T × Option T). p.0) e)) old;
    come_at = subst (IsItemForSome Has is u) (sym (ap (λ (p : Option T × Option T). p.1) e)) new;
    kept_at = λ v h n. absurd (n h);
  }
  move_at u before after change old new (inr (same, e)) = record {
    at = None;
    within = λ v h. absurd h;
    gone_at = ap (λ (p : Option T × Option T). p.0) e;
    come_at = ap (λ (p : Option T × Option T). p.1) e;
    kept_at = λ v h n. unmoved u before after old new same v h;
  }

  none_comes : (u : Option Value) (found : Option T) → IsItemForSome Has is u found → ((v : Value) → ¬ Is u v) → found ≡ None
  none_comes None found is never = is
  none_comes (Some u) found is never = absurd (never u refl)

  module _ {K : Type 0} (shape : Shape T K) (order : IsStrictOrder shape.before) (exact : IsExact shape.same) (stood_for : StandForValues shape Had was) (stand_for : StandForValues shape Has is)
      (items : List T) (tree : HasItemsBut shape Had was (λ v. ⊥) items) (first second : Option Value) (gone come : Option T × Option T) (moves : AreMoves Had Has was is first second gone come) where
    abbrev Out : Value → Type 0
    Out v = (⊥ ⊎ Is first v) ⊎ Is second v

    abbrev left_over : List T
    left_over = without shape gone.1 (without shape gone.0 items)

    taken : HasItemsBut shape Had was Out left_over
    taken =
        take_some shape order exact Had was stood_for (λ v. ⊥ ⊎ Is first v) (without shape gone.0 items)
        (take_some shape order exact Had was stood_for (λ v. ⊥) items tree first gone.0 moves.gone_first) second gone.1 moves.gone_second

    keeps : (v : Value) → ¬ Out v → KeepsItem Had Has was is v
    keeps v out = moves.others v (λ h. out (inl (inr h))) (λ h. out (inr h))

    -- the other items are those after the edit
    changed : HasItemsBut shape Has is Out left_over
    changed = record {
      each = λ v has out. let k = keeps v out in subst (Contains left_over) (k.same (k.stood has)) (taken.each v (k.stood has) out);
      only = λ x h. let (had, out, e) = taken.only x h in let k = keeps (shape.value x) out in (k.still had, out, e ∙ k.same had);
    }

    is_out : (v : Value) → Out v → Is first v ⊎ Is second v
    is_out v (inl (inl n)) = absurd n
    is_out v (inl (inr h)) = inl h
    is_out v (inr h) = inr h

    half : HasItemsBut shape Has is (Is second) (with shape come.0 left_over)
    half = put_some shape order exact Has is stand_for Out (Is second) left_over changed (λ v h. inr h) first come.0 moves.come_first moves.apart is_out (λ v h. inl (inr h))

    whole : HasItemsBut shape Has is (λ v. ⊥) (moved shape gone come items)
    whole = put_some shape order exact Has is stand_for (Is second) (λ v. ⊥) (with shape come.0 left_over) half (λ v n. absurd n) second come.1 moves.come_second (λ v h n. n) (λ v h. inl h) (λ v h. h)

    all_new : AreNew shape items gone come
    all_new = record {
      first = new_some shape order exact Has is stand_for Out left_over changed first come.0 moves.come_first (λ v h. inl (inr h));
      second = new_some shape order exact Has is stand_for (Is second) (with shape come.0 left_over) half second come.1 moves.come_second (λ v h. h);
    }

-- what goes leaves room for what comes, where no value is new
present_before : {T K : Type 0} (shape : Shape T K) (Had Has : Value → Type 0) (was is : Value → T) (items : List T) → HasItemsBut shape Had was (λ v. ⊥) items → (u : Option Value) (one other : Option T) → IsItemForSome Had was u one → IsItemForSome Has is u other
    → ((v : Value) → Has v → Had v) → IsSome other → IsThere items one
present_before shape Had Has was is items tree None one other before after had some = absurd (let e : is_some other ≡ false = ap is_some after in both_ways (is_some other) e some)
present_before shape Had Has was is items tree (Some u) None other before after had some = absurd (before.none refl (had u (after.some some)))
present_before shape Had Has was is items tree (Some u) (Some x) other before after had some = subst (Contains items) (sym before.item) (tree.each u (before.some refl) (λ n. n))

none_other : (f : Option Value) → other_value f None ≡ None
none_other None = refl
none_other (Some u) = refl

-- the items of the values that an edit touches are moved where they change
module _ {T K : Type 0} (shape : Shape T K) (order : IsStrictOrder shape.before) (exact : IsExact shape.same) (old new : Option Op) (Had Has : Value → Type 0) (was is : Value → T)
    (stood_for : StandForValues shape Had was) (stand_for : StandForValues shape Has is) (kept_where : (v : Value) → IsUntouched old new v → KeepsItem Had Has was is v)
    (items : List T) (tree : HasItemsBut shape Had was (λ v. ⊥) items) (before after gone come : Option T × Option T) (changes : AreChanges before after gone come)
    (before_first : IsItemForSome Had was (value_in old) before.0) (before_second : IsItemForSome Had was (other_value (value_in old) (value_in new)) before.1)
    (after_first : IsItemForSome Has is (value_in old) after.0) (after_second : IsItemForSome Has is (other_value (value_in old) (value_in new)) after.1) where
  abbrev first_value : Option Value
  first_value = value_in old

  abbrev second_value : Option Value
  second_value = other_value (value_in old) (value_in new)

  one : IsMoveAt Had Has was is first_value gone.0 come.0
  one = move_at Had Has was is first_value before.0 after.0 (gone.0, come.0) before_first after_first changes.one

  other : IsMoveAt Had Has was is second_value gone.1 come.1
  other = move_at Had Has was is second_value before.1 after.1 (gone.1, come.1) before_second after_second changes.other

  untouched : (v : Value) → ¬ Is first_value v → ¬ Is second_value v → IsUntouched old new v
  untouched v m n = record {
    by_old = λ op e f. m (is_value_in old op v e f);
    by_new = λ op e f. by_cases (other_covers first_value (value_in new) v (is_value_in new op v e f));
  }
    where
      by_cases : Is first_value v ⊎ Is second_value v → ⊥
      by_cases (inl h) = m h
      by_cases (inr h) = n h

  kept_by : (v : Value) → ¬ Is one.at v → ¬ Is other.at v → Is first_value v ⊎ ¬ Is first_value v → Is second_value v ⊎ ¬ Is second_value v → KeepsItem Had Has was is v
  kept_by v m n (inl h) k = one.kept_at v h m
  kept_by v m n (inr h) (inl k) = other.kept_at v k n
  kept_by v m n (inr h) (inr k) = kept_where v (untouched v h k)

  moves : AreMoves Had Has was is one.at other.at gone come
  moves = record {
    gone_first = one.gone_at;
    gone_second = other.gone_at;
    come_first = one.come_at;
    come_second = other.come_at;
    apart = λ v h k. other_apart first_value (value_in new) v (one.within v h) (other.within v k);
    others = λ v m n. kept_by v m n (is_cases first_value v) (is_cases second_value v);
  }

  pub moved_tree : HasItemsBut shape Has is (λ v. ⊥) (moved shape gone come items)
  moved_tree = whole Had Has was is shape order exact stood_for stand_for items tree one.at other.at gone come moves

  pub tree_is_new : AreNew shape items gone come
  tree_is_new = all_new Had Has was is shape order exact stood_for stand_for items tree one.at other.at gone come moves

  pub tree_keeps_room : ((v : Value) → Has v → Had v) → new ≡ None → KeepsRoom items gone come
  tree_keeps_room stood e =
      let none : second_value ≡ None = ap (λ (n : Option Op). other_value first_value (value_in n)) e ∙ none_other first_value in
      record {
        one = present_before shape Had Has was is items tree one.at gone.0 come.0 one.gone_at one.come_at stood;
        other = none_comes Had Has was is other.at come.1 other.come_at (λ v h. subst (λ (u : Option Value). Is u v) none (other.within v h));
      }
