-- The items after an edit are those of the operations: one goes, one comes, the covers before both are rebuilt.
use Rattle.std.proofs.Common.{◌≡◌, ℕ, suc, ◌<◌, ◌≤◌, ◌⊎◌, inl, inr, Bool, true, false, ◌||◌, List, Option, Some, None, refl, sym, ap, ◌∙◌, cond, subst, arith}
use Rattle.std.specs.Prelude.{Contains}
use Rattle.std.proofs.lemmas.Bool.{both_ways, cases_Bool}
use Rattle.intervals.specs.declared.operation.Op.{Op}
use Rattle.intervals.specs.declared.operation.Moment.{Moment}
use Rattle.intervals.specs.declared.claim.Kind.{Kind}
use Rattle.intervals.specs.declared.claim.Kind.TheVariants.{Safe, Regular, Atomic}
use Rattle.intervals.specs.declared.ordered_index.Spot.{Spot}
use Rattle.intervals.specs.Operation.{IsWrite, is_write, is_judged_read}
use Rattle.intervals.specs.OrderedIndex.{same_spot}
use Rattle.intervals.specs.Terms.{ClaimModel}
use Rattle.read_tree.specs.declared.item.RowItem.{RowItem}
use Rattle.read_tree.specs.Items.{AreItemsInOrder, spot_of_item}
use Rattle.safe_regular.specs.Held.{AreOneWriters}
use Rattle.safe_regular.specs.LookUp.{BeginsFrom, IsFirstWriteOf}
use Rattle.safe_regular.specs.RowItems.{AreItemsOf, HasWriteAt, IsAway, IsCoverBefore, IsExchanged, IsFreeFor, IsInFront, IsOperationItem, IsItemOf, IsLaid, IsRenewed, HasItemAt, cover_item, cover_reach, has_rows, initial_item, initial_reach, initial_place, place_in, place_of_some, read_item, optional_item_spot}
use Rattle.safe_regular.specs.Change.{IsAmong}
use Rattle.safe_regular.proofs.Next.{some_first, IsApartFrom, next_after, next_before}
use Rattle.safe_regular.proofs.Told.{same_is, same_itself, op_away, initial_away, of_which, items_told, place_of_cover, place_of_read, writes_apart}

-- an item is at the spot of an optional one, or it is away from there
pub at_or_away : (o : Option RowItem) (x : RowItem) → ((y : RowItem) × (o ≡ Some y) × (same_spot (spot_of_item x) (spot_of_item y) ≡ true)) ⊎ IsAway (place_of_some o) x
at_or_away None x = inr tt
at_or_away (Some y) x = elim (cases_Bool (same_spot (spot_of_item x) (spot_of_item y))) [ inl t ↦ inl (y, refl, t) | inr f ↦ inr f ]

-- an item at the spot of an optional one is not away from there
not_away : (o : Option RowItem) (x y : RowItem) → o ≡ Some y → spot_of_item x ≡ spot_of_item y → ¬ IsAway (place_of_some o) x
not_away None x y e same away = absurd (cc)
not_away (Some z) x y e same away =
    let is : z ≡ y = cc in
    both_ways (same_spot (spot_of_item x) (spot_of_item z)) away (subst (λ (s : Spot). same_spot (spot_of_item x) s ≡ true) (same ∙ ap spot_of_item (sym is)) (same_itself (spot_of_item x)))

neither : (a b : Bool) → a ≡ false → b ≡ false → (a || b) ≡ false
neither a b f g = rw (f, g) refl

-- the spot of an operation that has an item
pub laid : (claim : ClaimModel) (o : Op) → (t : Bool) → (is_write o || is_judged_read o) ≡ t → IsLaid o → optional_item_spot claim (Some o) ≡ Some (place_in claim o)
laid claim o t e (inl write) = rw write refl
laid claim o t e (inr judged) = elim (is_write o) as (λ b. cond (b || is_judged_read o) (Some (place_in claim o)) None ≡ Some (place_in claim o)) [ true ↦ refl | false ↦ rw judged refl ]

-- an item at the spot of the old operation is not away from there
old_not_away : (claim : ClaimModel) (old : Option Op) (x : RowItem) (y : Op) → old ≡ Some y → IsLaid y → spot_of_item x ≡ place_in claim y → ¬ IsAway (optional_item_spot claim old) x
old_not_away claim old x y is y_laid e away =
    let spot : optional_item_spot claim old ≡ Some (place_in claim y) = ap (optional_item_spot claim) is ∙ laid claim y (is_write y || is_judged_read y) refl y_laid in
    let at : same_spot (spot_of_item x) (place_in claim y) ≡ false = subst (λ (s : Option Spot). IsAway s x) spot away in
    both_ways (same_spot (spot_of_item x) (place_in claim y)) at (subst (λ (s : Spot). same_spot (spot_of_item x) s ≡ true) e (same_itself (spot_of_item x)))

-- an item is at the spot of the operation that goes, if that has one
pub place_is_taken : (claim : ClaimModel) (ops : List Op) (old : Option Op) (apart : AreOneWriters claim ops) → ((o : Op) → old ≡ Some o → Contains ops o) → (items : List RowItem) → AreItemsOf claim ops items → HasItemAt (optional_item_spot claim old) items
place_is_taken claim ops None apart present items are = tt
place_is_taken claim ops (Some o) apart present items are = elim (cases_Bool (is_write o)) [
  | inl write ↦
      let (next, next_is) = some_first (suc o.begin.0) ops in
      let y = cover_item claim o next in
      at y (are.each y (inr (inl (record { write = o; present = present o refl; writes = write; next = next; next_is = next_is; is = refl })))) (place_of_cover claim ops apart o next write)
  | inr reads ↦ elim (cases_Bool (is_judged_read o)) [
    | inl judged ↦
        let y = read_item claim o in
        at y (are.each y (inl (record { read = o; present = present o refl; judged = judged; is = refl }))) (place_of_read claim ops apart o judged)
    | inr neither_one ↦ rw (neither (is_write o) (is_judged_read o) reads neither_one) tt
  ]
]
  where
    at : (y : RowItem) → Contains items y → spot_of_item y ≡ place_in claim o → HasItemAt (optional_item_spot claim (Some o)) items
    at y h e = by_laid (is_write o || is_judged_read o)
      where
        by_laid : (t : Bool) → HasItemAt (cond t (Some (place_in claim o)) None) items
        by_laid true = (y, h, subst (λ (s : Spot). same_spot (spot_of_item y) s ≡ true) e (same_itself (spot_of_item y)))
        by_laid false = tt

-- once the old operation's item is gone, no item is at the spot of the new one's
pub place_is_free : (claim : ClaimModel) (ops others after : List Op) (old new : Option Op) (before_apart : AreOneWriters claim ops) (after_apart : AreOneWriters claim after)
    (before_cases : (x : Op) → Contains ops x → IsAmong others old x) (in_after : (x : Op) → IsAmong others new x → Contains after x)
    (new_other : (x y : Op) → Contains others x → new ≡ Some y → ¬ (x ≡ y))
    (item : Option RowItem) (item_is : IsItemOf claim after new item) (items : List RowItem) (are : AreItemsOf claim ops items)
    → IsFreeFor (optional_item_spot claim old) item items
place_is_free claim ops others after old new before_apart after_apart before_cases in_after new_other None item_is items are = tt
place_is_free claim ops others after old new before_apart after_apart before_cases in_after new_other (Some x) item_is items are = λ y present away.
    let (x_is, of_op) = item_is.is x refl in
    let (o, is, o_laid, at) = of_op in
    let o_present = in_after o (inr is) in
    elim (of_which claim ops before_apart y (are.only y present)) [
      | inl initial ↦ subst (λ (s : Spot). same_spot s (spot_of_item x) ≡ false) (sym initial) (subst (λ (s : Spot). same_spot (initial_place claim) s ≡ false) (sym at) (initial_away claim after after_apart o o_present))
      | inr of_other ↦
          let (a, a_present, a_laid, a_at) = of_other in
          elim (before_cases a a_present) [
            | inl among ↦ subst (λ (s : Spot). same_spot s (spot_of_item x) ≡ false) (sym a_at) (subst (λ (s : Spot). same_spot (place_in claim a) s ≡ false) (sym at)
                (op_away claim after after_apart a o (in_after a (inl among)) o_present a_laid o_laid (new_other a o among is)))
            | inr gone ↦ absurd (old_not_away claim old y a gone a_laid a_at away)
          ]
    ]

module _ (claim : ClaimModel) (ops others after : List Op) (old new : Option Op) (before_apart : AreOneWriters claim ops) (after_apart : AreOneWriters claim after)
    (before_cases : (x : Op) → Contains ops x → IsAmong others old x) (in_before : (x : Op) → IsAmong others old x → Contains ops x)
    (after_cases : (x : Op) → Contains after x → IsAmong others new x) (in_after : (x : Op) → IsAmong others new x → Contains after x)
    (old_other : (x y : Op) → Contains others x → old ≡ Some y → ¬ (x ≡ y))
    (item left come : Option RowItem) (item_is : IsItemOf claim after new item) (left_is : IsCoverBefore claim after None old left) (come_is : IsCoverBefore claim after old new come)
    (first second third last : List RowItem) (are : AreItemsOf claim ops first) (one : IsExchanged (optional_item_spot claim old) item first second) (two : IsRenewed left second third) (three : IsRenewed come third last) where
  -- the item of one of the others is at another spot than that of the old operation
  away_from_old : (x : RowItem) (o : Op) → Contains others o → IsLaid o → spot_of_item x ≡ place_in claim o → IsAway (optional_item_spot claim old) x
  away_from_old x o among o_laid e = by_old old refl
    where
      by_laid : (y : Op) (t : Bool) → (is_write y || is_judged_read y) ≡ t → old ≡ Some y → (IsLaid y) ⊎ (t ≡ false) → IsAway (cond t (Some (place_in claim y)) None) x
      by_laid y true t is (inl y_laid) =
          subst (λ (s : Spot). same_spot s (place_in claim y) ≡ false) (sym e)
          (op_away claim ops before_apart o y (in_before o (inl among)) (in_before y (inr is)) o_laid y_laid (old_other o y among is))
      by_laid y true t is (inr f) = absurd (cc)
      by_laid y false t is _ = tt

      which : (y : Op) → IsLaid y ⊎ ((is_write y || is_judged_read y) ≡ false)
      which y = elim (cases_Bool (is_write y)) [
        | inl t ↦ inl (inl t)
        | inr f ↦ elim (cases_Bool (is_judged_read y)) [ inl t ↦ inl (inr t) | inr g ↦ inr (neither (is_write y) (is_judged_read y) f g) ]
      ]

      by_old : (z : Option Op) → old ≡ z → IsAway (optional_item_spot claim z) x
      by_old None is = tt
      by_old (Some y) is = by_laid y (is_write y || is_judged_read y) refl is (which y)

  initial_from_old : (x : RowItem) → spot_of_item x ≡ initial_place claim → IsAway (optional_item_spot claim old) x
  initial_from_old x e = by_old old refl
    where
      by_laid : (y : Op) (t : Bool) → old ≡ Some y → IsAway (cond t (Some (place_in claim y)) None) x
      by_laid y true is = subst (λ (s : Spot). same_spot s (place_in claim y) ≡ false) (sym e) (initial_away claim ops before_apart y (in_before y (inr is)))
      by_laid y false is = tt

      by_old : (z : Option Op) → old ≡ z → IsAway (optional_item_spot claim z) x
      by_old None is = tt
      by_old (Some y) is = by_laid y (is_write y || is_judged_read y) is

  -- after a cover that is not the one before an operation, some write begins before that operation does
  between : (op : Option Op) (c : Option RowItem) (n : ℕ) (x : RowItem) → IsAway (place_of_some c) x → (o : Op) → n ≤ o.begin.0
      → ((y : RowItem) → IsInFront claim after o.begin.0 y → ((u : Op) → Contains after u → IsWrite u → u.begin.0 < o.begin.0 → u.begin.0 < n) → spot_of_item x ≡ spot_of_item y)
      → ((y : RowItem) × (c ≡ Some y) × IsInFront claim after o.begin.0 y) → ¬ ((u : Op) → Contains after u → IsWrite u → u.begin.0 < o.begin.0 → u.begin.0 < n)
  between op c n x away o above same (y, c_at, front) below = not_away c x y c_at (same y front below) away

  -- the cover before an operation is that of a write w, where the operation is after w and no write is between
  front_is : (w : Op) → Contains others w → IsWrite w → (x : RowItem) → spot_of_item x ≡ place_in claim w → (o : Op) → suc w.begin.0 ≤ o.begin.0 → (y : RowItem) → IsInFront claim after o.begin.0 y
      → ((u : Op) → Contains after u → IsWrite u → u.begin.0 < o.begin.0 → u.begin.0 < suc w.begin.0) → spot_of_item x ≡ spot_of_item y
  front_is w among write x e o above y front below = elim front [
    | inl last ↦
        let (v, v_is, v_at) = last in
        let w_present = in_after w (inl among) in
        let le : w.begin.0 ≤ v.begin.0 = v_is.last w w_present write above in
        let ge : v.begin.0 < suc w.begin.0 = below v v_is.present v_is.write v_is.fits in
        let same : w ≡ v = (writes_apart claim after after_apart).one w v w_present v_is.present write v_is.write (omega (arith, le, ge)) in
        e ∙ ap (place_in claim) same ∙ sym v_at
    | inr none ↦ absurd (none.0 w (in_after w (inl among)) write above)
  ]

  -- the cover before an operation is the initial one, where no write is before it
  initial_front_is : (x : RowItem) → spot_of_item x ≡ initial_place claim → (o : Op) → (y : RowItem) → IsInFront claim after o.begin.0 y
      → ((u : Op) → Contains after u → IsWrite u → u.begin.0 < o.begin.0 → u.begin.0 < 0) → spot_of_item x ≡ spot_of_item y
  initial_front_is x e o y front below = elim front [
    | inl last ↦ let (v, v_is, v_at) = last in let lt : v.begin.0 < 0 = below v v_is.present v_is.write v_is.fits in absurd (omega (arith, lt))
    | inr none ↦ e ∙ sym none.1
  ]

  abbrev Below : ℕ → ℕ → Type 0
  Below n m = (u : Op) → Contains after u → IsWrite u → u.begin.0 < m → u.begin.0 < n

  module _ (rows : has_rows claim.kind ≡ true) (n : ℕ) (x : RowItem)
      (same : (o : Op) → n ≤ o.begin.0 → (y : RowItem) → IsInFront claim after o.begin.0 y → Below n o.begin.0 → spot_of_item x ≡ spot_of_item y) where
    old_apart : IsAway (place_of_some left) x → IsApartFrom ops others after old new before_cases in_before after_cases in_after old n
    old_apart away o is writes above below = elim (left_is.there o is writes rows) [
      | inl there ↦ between old left n x away o above (same o above) there below
      | inr never ↦ absurd never
    ]

    new_apart : IsAway (place_of_some left) x → IsAway (place_of_some come) x → IsApartFrom ops others after old new before_cases in_before after_cases in_after new n
    new_apart from_left from_come o is writes above below = elim (come_is.there o is writes rows) [
      | inl there ↦ between new come n x from_come o above (same o above) there below
      | inr at ↦ by_old old refl at
    ]
      where
        by_old : (z : Option Op) → old ≡ z → HasWriteAt z o.begin.0 → ⊥
        by_old None old_is at = at
        by_old (Some p) old_is at = old_apart from_left p old_is at.0 (subst (λ k. n ≤ k) (sym at.1) above) (λ u present write lt. below u present write (subst (λ k. u.begin.0 < k) at.1 lt))

  -- where values have no rows the reach of a cover does not depend on the next write
  any_reach : (kind : Kind) → has_rows kind ≡ false → (end : Option Moment) (m n : Option Op) → cover_reach kind end m ≡ cover_reach kind end n
  any_reach Safe e end m n = refl
  any_reach Regular e end m n = absurd (cc)
  any_reach Atomic e end m n = absurd (cc)

  any_initial : (kind : Kind) → has_rows kind ≡ false → (m n : Option Op) → initial_reach kind m ≡ initial_reach kind n
  any_initial Safe e m n = refl
  any_initial Regular e m n = absurd (cc)
  any_initial Atomic e m n = absurd (cc)

  same_cover : has_rows claim.kind ≡ false → (w : Op) (m n : Option Op) → cover_item claim w m ≡ cover_item claim w n
  same_cover e w m n = ap (λ (reach : ℕ). let x : RowItem = record (cover_item claim w m) { reach = reach } in x) (any_reach claim.kind e w.end m n)

  same_initial : has_rows claim.kind ≡ false → (m n : Option Op) → initial_item claim m ≡ initial_item claim n
  same_initial e m n = ap (λ (reach : ℕ). let x : RowItem = record (initial_item claim m) { reach = reach } in x) (any_initial claim.kind e m n)

  -- an item away from both covers that are rebuilt is made with the same next write before and after the edit
  module _ (x : RowItem) (from_left : IsAway (place_of_some left) x) (from_come : IsAway (place_of_some come) x) where
    next_then : (n : ℕ) (make : Option Op → RowItem) → (has_rows claim.kind ≡ false → (p q : Option Op) → make p ≡ make q)
        → ((o : Op) → n ≤ o.begin.0 → (y : RowItem) → IsInFront claim after o.begin.0 y → Below n o.begin.0 → spot_of_item x ≡ spot_of_item y)
        → (next : Option Op) → IsFirstWriteOf (BeginsFrom n) ops next → (then : Option Op) × IsFirstWriteOf (BeginsFrom n) after then × (make next ≡ make then)
    next_then n make alike same next next_is = elim (cases_Bool (has_rows claim.kind)) [
      | inl rows ↦ (
        next,
        next_after ops others after old new before_cases in_before after_cases in_after n (old_apart rows n x same from_left) (new_apart rows n x same from_left from_come) next next_is,
        refl,
      )
      | inr none ↦ let (then, then_is) = some_first n after in (then, then_is, alike none next then)
    ]

    next_was : (n : ℕ) (make : Option Op → RowItem) → (has_rows claim.kind ≡ false → (p q : Option Op) → make p ≡ make q)
        → ((o : Op) → n ≤ o.begin.0 → (y : RowItem) → IsInFront claim after o.begin.0 y → Below n o.begin.0 → spot_of_item x ≡ spot_of_item y)
        → (next : Option Op) → IsFirstWriteOf (BeginsFrom n) after next → (was : Option Op) × IsFirstWriteOf (BeginsFrom n) ops was × (make next ≡ make was)
    next_was n make alike same next next_is = elim (cases_Bool (has_rows claim.kind)) [
      | inl rows ↦ (
        next,
        next_before ops others after old new before_cases in_before after_cases in_after n (old_apart rows n x same from_left) (new_apart rows n x same from_left from_come) next next_is,
        refl,
      )
      | inr none ↦ let (was, was_is) = some_first n ops in (was, was_is, alike none next was)
    ]

  -- an item of before the edit that was not rebuilt is an item after it
  stays_item : (x : RowItem) → IsOperationItem claim ops x → IsAway (optional_item_spot claim old) x → IsAway (place_of_some left) x → IsAway (place_of_some come) x → IsOperationItem claim after x
  stays_item x (inl is) from_old _ _ = elim (before_cases is.read is.present) [
    | inl among ↦ inl (record { read = is.read; present = in_after is.read (inl among); judged = is.judged; is = is.is })
    | inr gone ↦ absurd (old_not_away claim old x is.read gone (inr is.judged) (ap spot_of_item is.is ∙ place_of_read claim ops before_apart is.read is.judged) from_old)
  ]
  stays_item x (inr (inl is)) from_old from_left from_come =
      let w = is.write in
      let e : spot_of_item x ≡ place_in claim w = ap spot_of_item is.is ∙ place_of_cover claim ops before_apart w is.next is.writes in
      elim (before_cases w is.present) [
        | inl among ↦
            let (then, then_is, same) = next_then x from_left from_come (suc w.begin.0) (cover_item claim w) (λ none p q. same_cover none w p q) (front_is w among is.writes x e) is.next is.next_is in
            inr (inl (record { write = w; present = in_after w (inl among); writes = is.writes; next = then; next_is = then_is; is = is.is ∙ same }))
        | inr gone ↦ absurd (old_not_away claim old x w gone (inl is.writes) e from_old)
      ]
  stays_item x (inr (inr is)) from_old from_left from_come =
      let (then, then_is, same) = next_then x from_left from_come 0 (initial_item claim) same_initial (λ o above. initial_front_is x (ap spot_of_item is.is) o) is.next is.next_is in
      inr (inr (record { next = then; next_is = then_is; is = is.is ∙ same }))

  pub only_items : (x : RowItem) → Contains last x → IsOperationItem claim after x
  only_items x h = elim (three.only x h) [
    | inr came ↦ come_is.is x came
    | inl stayed ↦ elim (two.only x stayed.0) [
      | inr left_at ↦ left_is.is x left_at
      | inl kept ↦ elim (one.only x kept.0) [
        | inr put ↦ (item_is.is x put).0
        | inl stood ↦ stays_item x (are.only x stood.0) stood.1 kept.1 stayed.1
      ]
    ]
  ]

  -- the item of the new operation is among the items after the exchange
  new_put : (x : RowItem) (o : Op) → IsOperationItem claim after x → new ≡ Some o → IsLaid o → spot_of_item x ≡ place_in claim o → Contains second x
  new_put x o x_is is o_laid e =
      let (y, y_at) = item_is.there o is o_laid in
      let (y_is, of_op) = item_is.is y y_at in
      let (p, p_is, p_laid, p_at) = of_op in
      let same : o ≡ p = cc in
      let equal : x ≡ y = items_told claim after after_apart x y x_is y_is (e ∙ ap (place_in claim) same ∙ sym p_at) in
      subst (Contains second) (sym equal) (one.put y y_at)

  -- an item for after the edit that was not rebuilt is there after the exchange
  stays_put : (x : RowItem) → IsOperationItem claim after x → IsAway (place_of_some left) x → IsAway (place_of_some come) x → Contains second x
  stays_put x (inl is) _ _ =
      let e : spot_of_item x ≡ place_in claim is.read = ap spot_of_item is.is ∙ place_of_read claim after after_apart is.read is.judged in
      elim (after_cases is.read is.present) [
        | inl among ↦ one.kept x (are.each x (inl (record { read = is.read; present = in_before is.read (inl among); judged = is.judged; is = is.is }))) (away_from_old x is.read among (inr is.judged) e)
        | inr came ↦ new_put x is.read (inl is) came (inr is.judged) e
      ]
  stays_put x (inr (inl is)) from_left from_come =
      let w = is.write in
      let e : spot_of_item x ≡ place_in claim w = ap spot_of_item is.is ∙ place_of_cover claim after after_apart w is.next is.writes in
      elim (after_cases w is.present) [
        | inl among ↦
            let (was, was_is, same) = next_was x from_left from_come (suc w.begin.0) (cover_item claim w) (λ none p q. same_cover none w p q) (front_is w among is.writes x e) is.next is.next_is in
            one.kept x (are.each x (inr (inl (record { write = w; present = in_before w (inl among); writes = is.writes; next = was; next_is = was_is; is = is.is ∙ same }))))
            (away_from_old x w among (inl is.writes) e)
        | inr came ↦ new_put x w (inr (inl is)) came (inl is.writes) e
      ]
  stays_put x (inr (inr is)) from_left from_come =
      let e : spot_of_item x ≡ initial_place claim = ap spot_of_item is.is in
      let (was, was_is, same) = next_was x from_left from_come 0 (initial_item claim) same_initial (λ o above. initial_front_is x e o) is.next is.next_is in
      one.kept x (are.each x (inr (inr (record { next = was; next_is = was_is; is = is.is ∙ same })))) (initial_from_old x e)

  -- where an item belongs after the edit, an item is there after the exchange
  stood : (x : RowItem) → IsOperationItem claim after x → (y : RowItem) × Contains second y × (spot_of_item y ≡ spot_of_item x)
  stood x x_is = elim (of_which claim after after_apart x x_is) [
    | inl initial ↦
        let (next, next_is) = some_first 0 ops in
        let y = initial_item claim next in
        (y, one.kept y (are.each y (inr (inr (record { next = next; next_is = next_is; is = refl })))) (initial_from_old y refl), sym initial)
    | inr of_op ↦ let (o, o_present, o_laid, e) = of_op in elim (after_cases o o_present) [
      | inr came ↦ (x, new_put x o x_is came o_laid e, refl)
      | inl among ↦ elim o_laid [
        | inl write ↦
            let (next, next_is) = some_first (suc o.begin.0) ops in
            let y = cover_item claim o next in
            let at : spot_of_item y ≡ place_in claim o = place_of_cover claim ops before_apart o next write in
            (y, one.kept y (are.each y (inr (inl (record { write = o; present = in_before o (inl among); writes = write; next = next; next_is = next_is; is = refl })))) (away_from_old y o among (inl write) at), at ∙ sym e)
        | inr judged ↦
            let y = read_item claim o in
            let at : spot_of_item y ≡ place_in claim o = place_of_read claim ops before_apart o judged in
            (y, one.kept y (are.each y (inl (record { read = o; present = in_before o (inl among); judged = judged; is = refl }))) (away_from_old y o among (inr judged) at), at ∙ sym e)
      ]
    ]
  ]

  present_then : (x : RowItem) → IsOperationItem claim after x → (y : RowItem) × Contains third y × (spot_of_item y ≡ spot_of_item x)
  present_then x x_is =
      let (y, y_present, e) = stood x x_is in
      elim (at_or_away left y) [
        | inr away ↦ (y, two.kept y y_present away, e)
        | inl at ↦ let (z, z_at, t) = at in (z, two.put z y z_at y_present t, sym (same_is (spot_of_item y) (spot_of_item z) t) ∙ e)
      ]

  pub each_item : (x : RowItem) → IsOperationItem claim after x → Contains last x
  each_item x x_is = elim (at_or_away come x) [
    | inl at ↦
        let (y, y_at, t) = at in
        let e : spot_of_item x ≡ spot_of_item y = same_is (spot_of_item x) (spot_of_item y) t in
        let equal : x ≡ y = items_told claim after after_apart x y x_is (come_is.is y y_at) e in
        let (z, z_present, z_at) = present_then x x_is in
        subst (Contains last) (sym equal) (three.put y z y_at z_present (subst (λ (s : Spot). same_spot (spot_of_item z) s ≡ true) (z_at ∙ e) (same_itself (spot_of_item z))))
    | inr from_come ↦ elim (at_or_away left x) [
      | inl at ↦
          let (y, y_at, t) = at in
          let e : spot_of_item x ≡ spot_of_item y = same_is (spot_of_item x) (spot_of_item y) t in
          let equal : x ≡ y = items_told claim after after_apart x y x_is (left_is.is y y_at) e in
          let (z, z_present, z_at) = stood x x_is in
          let third_has = two.put y z y_at z_present (subst (λ (s : Spot). same_spot (spot_of_item z) s ≡ true) (z_at ∙ e) (same_itself (spot_of_item z))) in
          three.kept x (subst (Contains third) (sym equal) third_has) from_come
      | inr from_left ↦ three.kept x (two.kept x (stays_put x x_is from_left from_come) from_left) from_come
    ]
  ]

  pub items_after : AreItemsInOrder last → AreItemsOf claim after last
  items_after order = record { order = order; each = each_item; only = only_items }
