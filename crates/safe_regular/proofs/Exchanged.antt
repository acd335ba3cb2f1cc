-- The items after an exchange, and after one is replaced at its spot.
use Rattle.std.proofs.Common.{◌≡◌, ◌⊎◌, inl, inr, true, false, not, List, Option, Some, None, refl, sym, ap, ◌∙◌, subst}
use Rattle.std.specs.Prelude.{Contains, IfSome, IsSome}
use Rattle.std.proofs.lemmas.Bool.{cases_Bool, not-true, not_from_false}
use Rattle.intervals.specs.declared.operation.Op.{Op}
use Rattle.intervals.specs.declared.ordered_index.Spot.{Spot}
use Rattle.intervals.specs.OrderedIndex.{same_spot}
use Rattle.intervals.specs.Terms.{ClaimModel}
use Rattle.read_tree.specs.declared.item.RowItem.{RowItem}
use Rattle.read_tree.specs.Items.{AreItemsInOrder, item_at_spot, spot_of_item, renewed}
use Rattle.read_tree.proofs.Members.{kept_from, kept_in, none_found_where, new_or_old, new_present, old_present, one_of_a_spot, renewed_from, renewed_in, stays_in}
use Rattle.read_tree.proofs.Order.{same_true}
use Rattle.safe_regular.specs.RowItems.{IsAway, IsExchanged, IsFreeFor, IsItemOf, IsRenewed, HasItemAt, items_renewed, items_with, items_without}

-- an item that is left without the one at the spot was there, and is at another spot
gone_from : (spot : Option Spot) (items : List RowItem) (x : RowItem) → Contains (items_without spot items) x → Contains items x × IsAway spot x
gone_from None items x h = (h, tt)
gone_from (Some spot) items x h = let kept = kept_from (λ y. not (same_spot (spot_of_item y) spot)) items x h in (kept.0, not-true (same_spot (spot_of_item x) spot) kept.1)

stays_without : (spot : Option Spot) (items : List RowItem) (x : RowItem) → Contains items x → IsAway spot x → Contains (items_without spot items) x
stays_without None items x h away = h
stays_without (Some spot) items x h away = kept_in (λ y. not (same_spot (spot_of_item y) spot)) items x h (not_from_false (same_spot (spot_of_item x) spot) away)

pub place_is_new : (spot : Option Spot) (item : Option RowItem) (items : List RowItem) → IsFreeFor spot item items → IfSome item (λ x. item_at_spot (spot_of_item x) (items_without spot items) ≡ None)
place_is_new spot None items free = tt
place_is_new spot (Some x) items free = none_found_where (λ y. same_spot (spot_of_item y) (spot_of_item x)) (items_without spot items) (λ y h. let from = gone_from spot items y h in free y from.0 from.1)

put_present : (item : Option RowItem) (items : List RowItem) (x : RowItem) → item ≡ Some x → Contains (items_with item items) x
put_present None items x e = absurd (cc)
put_present (Some y) items x e = let same : y ≡ x = cc in subst (Contains (items_with (Some y) items)) same (new_present y items)

stays_with : (item : Option RowItem) (items : List RowItem) → IfSome item (λ y. item_at_spot (spot_of_item y) items ≡ None) → (x : RowItem) → Contains items x → Contains (items_with item items) x
stays_with None items none x h = h
stays_with (Some y) items none x h = old_present y items none x h

from_with : (item : Option RowItem) (items : List RowItem) (x : RowItem) → Contains (items_with item items) x → Contains items x ⊎ (item ≡ Some x)
from_with None items x h = inl h
from_with (Some y) items x h = elim (new_or_old y items x h) [ inl same ↦ inr (ap Some (sym same)) | inr present ↦ inl present ]

pub is_exchanged : (spot : Option Spot) (item : Option RowItem) (items : List RowItem) → IsFreeFor spot item items → IsExchanged spot item items (items_with item (items_without spot items))
is_exchanged spot item items free = record {
  kept = λ x h away. stays_with item (items_without spot items) (place_is_new spot item items free) x (stays_without spot items x h away);
  put = λ x e. put_present item (items_without spot items) x e;
  only = λ x h. elim (from_with item (items_without spot items) x h) [ inl present ↦ inl (gone_from spot items x present) | inr e ↦ inr e ];
}

pub is_renewed : (item : Option RowItem) (items : List RowItem) → IsRenewed item items (items_renewed item items)
is_renewed None items = record { kept = λ x h away. h; put = λ x other e h t. absurd (cc); only = λ x h. inl (h, tt) }
is_renewed (Some y) items = record {
  kept = λ x h away. stays_in y items x h away;
  put = λ x other e h t. let same : y ≡ x = cc in subst (Contains (renewed y items)) same (renewed_in y items other h (subst (λ (z : RowItem). same_spot (spot_of_item other) (spot_of_item z) ≡ true) (sym same) t));
  only = λ x h. elim (renewed_from y items x h) [ inl stays ↦ inl stays | inr came ↦ inr (ap Some (sym came.0)) ];
}

-- to replace the item at the spot is to exchange it, where the new one has that spot
pub is_exchanged_there : (spot : Option Spot) (item : Option RowItem) (items : List RowItem) → HasItemAt spot items → (s : Spot) × (x : RowItem) × (spot ≡ Some s) × (item ≡ Some x) × (spot_of_item x ≡ s)
    → IsExchanged spot item items (items_renewed item items)
is_exchanged_there None item items taken there = absurd (let e = there.2 in cc)
is_exchanged_there (Some spot) None items taken there = absurd (let e = there.3 in cc)
is_exchanged_there (Some spot) (Some y) items taken (s, x, at, is, e) =
    let same_item : y ≡ x = cc in
    let same : spot ≡ s = cc in
    let place : spot ≡ spot_of_item y = same ∙ sym e ∙ ap spot_of_item (sym same_item) in
    let (old, h, t) = taken in
    record {
      kept = λ z present away. stays_in y items z present (subst (λ (p : Spot). same_spot (spot_of_item z) p ≡ false) place away);
      put = λ z f. let same_z : y ≡ z = cc in subst (Contains (renewed y items)) same_z (renewed_in y items old h (subst (λ (p : Spot). same_spot (spot_of_item old) p ≡ true) place t));
      only = λ z present. elim (renewed_from y items z present) [
        | inl stays ↦ inl (stays.0, subst (λ (p : Spot). same_spot (spot_of_item z) p ≡ false) (sym place) stays.1)
        | inr came ↦ inr (ap Some (sym came.0))
      ];
    }

-- to exchange an item for itself changes nothing
pub is_exchanged_itself : (spot : Option Spot) (x : RowItem) (items : List RowItem) → AreItemsInOrder items → Contains items x → spot ≡ Some (spot_of_item x) → IsExchanged spot (Some x) items items
is_exchanged_itself None x items order present at = absurd (cc)
is_exchanged_itself (Some spot) x items order present at =
    let place : spot ≡ spot_of_item x = cc in
    record {
      kept = λ z h away. h;
      put = λ z e. let same : x ≡ z = cc in subst (Contains items) same present;
      only = λ z h. elim (cases_Bool (same_spot (spot_of_item z) spot)) [
        | inl t ↦ inr (ap Some (one_of_a_spot items x z order present h (sym place ∙ sym (same_true (spot_of_item z) spot t))))
        | inr f ↦ inl (h, f)
      ];
    }

pub is_renewed_itself : (x : RowItem) (before after : List RowItem) → AreItemsInOrder before → Contains before x → IsRenewed None before after → IsRenewed (Some x) before after
is_renewed_itself x before after order present kept = record {
  kept = λ z h away. kept.kept z h tt;
  put = λ z other e h t. let same : x ≡ z = cc in subst (Contains after) same (kept.kept x present tt);
  only = λ z h. elim (kept.only z h) [
    | inl stood ↦ elim (cases_Bool (same_spot (spot_of_item z) (spot_of_item x))) [
      | inl t ↦ inr (ap Some (one_of_a_spot before x z order present stood.0 (sym (same_true (spot_of_item z) (spot_of_item x) t))))
      | inr f ↦ inl (stood.0, f)
    ]
    | inr came ↦ absurd (cc)
  ];
}

-- an item comes only with a new operation
module _ (claim : ClaimModel) (ops : List Op) (new : Option Op) where
  pub no_item : (item : Option RowItem) → IsItemOf claim ops new item → new ≡ None → item ≡ None
  no_item None is none = refl
  no_item (Some x) is none = absurd (let of_op = (is.is x refl).1 in let new_is = of_op.1 in cc)

  pub some_new : (item : Option RowItem) → IsItemOf claim ops new item → IsSome item → IsSome new
  some_new None is some = absurd (cc)
  some_new (Some x) is some = let of_op = (is.is x refl).1 in subst IsSome (sym of_op.1) refl
