-- The items of all operations are put into an empty tree, one after another.
use Rattle.std.proofs.Common.{◌≡◌, ℕ, ◌+◌, ◌<◌, ◌≤◌, inl, inr, true, false, List, [], ◌∷◌, ◌++◌, length, Option, Some, None, refl, sym, ap, subst, ◌∙◌, arith, length-append}
use Rattle.std.specs.Prelude.{Contains, IfSome}
use Rattle.std.proofs.lemmas.List.Elements.{All-contains, Contains-append_left, Contains-append_right, Contains-push, Contains-push_cases}
use Rattle.intervals.specs.declared.operation.Op.{Op}
use Rattle.intervals.specs.declared.ordered_index.Spot.{Spot}
use Rattle.intervals.specs.Edit.{op_of}
use Rattle.intervals.specs.Operation.{same_id}
use Rattle.intervals.specs.OrderedIndex.{same_spot}
use Rattle.intervals.specs.Standing.{HasDistinctIds}
use Rattle.intervals.specs.Terms.{ClaimModel}
use Rattle.intervals.proofs.Ids.{none_of, not_found, other_way, same_id-refl}
use Rattle.intervals.proofs.Members.{here}
use Rattle.read_tree.specs.declared.item.RowItem.{RowItem}
use Rattle.read_tree.specs.Items.{AreItemsInOrder, ReadContents, item_at_spot, spot_of_item}
use Rattle.safe_regular.specs.Held.{AreOneWriters}
use Rattle.safe_regular.specs.LookUp.{BeginsFrom, IsFirstWriteOf}
use Rattle.safe_regular.specs.RowItems.{AreItemsOf, AreLaid, IsFreeFor, IsItemOf, IsLaid, initial_item, initial_place, items_with, place_in}
use Rattle.safe_regular.proofs.Exchanged.{is_exchanged, place_is_new}
use Rattle.safe_regular.proofs.Told.{initial_away, items_told, of_which, op_away}

-- no operation before the next one has its id
new_id : (front : List Op) (op : Op) (rest : List Op) → HasDistinctIds (front ++ op ∷ rest) → op_of front op.id ≡ None
new_id [] op rest distinct = refl
new_id (a ∷ front) op rest distinct =
    let later = All-contains (λ o. same_id o.id a.id ≡ false) (front ++ op ∷ rest) op (none_of (front ++ op ∷ rest) a.id distinct.0) (Contains-append_right front (op ∷ rest) op (here op rest)) in
    not_found a front op.id (other_way op.id a.id later) (new_id front op rest distinct.1)

not_in_front : (front : List Op) (op : Op) (rest : List Op) → HasDistinctIds (front ++ op ∷ rest) → (a : Op) → Contains front a → ¬ (a ≡ op)
not_in_front front op rest distinct a h e =
    let other = All-contains (λ o. same_id o.id op.id ≡ false) front a (none_of front op.id (new_id front op rest distinct)) h in
    let same : same_id a.id op.id ≡ true = subst (λ (o : Op). same_id o.id op.id ≡ true) (sym e) (same_id-refl op.id) in cc

module _ (claim : ClaimModel) (ops : List Op) (apart : AreOneWriters claim ops) where
  -- the initial cover is put in first
  pub laid_first : (places : ℕ) (before after : ReadContents) (next : Option Op) → IsFirstWriteOf (BeginsFrom 0) ops next → before.items ≡ [] → after.items ≡ items_with (Some (initial_item claim next)) before.items
      → places ≤ after.free + 1 → AreLaid claim ops [] places after
  laid_first places before after next next_is empty are room =
      let x = initial_item claim next in
      let ex = is_exchanged None (Some x) before.items (λ y h _. absurd (let g : Contains [] y = subst (λ (l : List RowItem). Contains l y) empty h in omega (arith, g.1))) in
      record {
        only = λ y h. elim (ex.only y (subst (λ (l : List RowItem). Contains l y) are h)) [
          | inl old ↦ absurd (let g : Contains [] y = subst (λ (l : List RowItem). Contains l y) empty old.0 in omega (arith, g.1))
          | inr e ↦ (inr (inr (record { next = next; next_is = next_is; is = same_in x y e })), inl (ap spot_of_item (same_in x y e)))
        ];
        initial = (x, subst (λ (l : List RowItem). Contains l x) (sym are) (ex.put x refl), refl);
        each = λ o h _. absurd (omega (arith, h.1));
        room = omega (arith, room);
      }
    where
      same_in : (a b : RowItem) → Some a ≡ Some b → b ≡ a
      same_in a b e = cc

  module _ (places : ℕ) (enough : length ops + 1 ≤ places) (front : List Op) (op : Op) (rest : List Op) (all : ops ≡ front ++ op ∷ rest) (line : ReadContents) (laid : AreLaid claim ops front places line) where
    in_ops : (o : Op) → Contains front o → Contains ops o
    in_ops o h = subst (λ (l : List Op). Contains l o) (sym all) (Contains-append_left front (op ∷ rest) o h)

    pub op_present : Contains ops op
    op_present = subst (λ (l : List Op). Contains l op) (sym all) (Contains-append_right front (op ∷ rest) op (here op rest))

    -- the spot of the next operation's item is free
    pub next_is_free : (item : Option RowItem) → IsItemOf claim ops (Some op) item → IsFreeFor None item line.items
    next_is_free None item_is = tt
    next_is_free (Some x) item_is = λ y present _.
        let (x_is, of_op) = item_is.is x refl in
        let (o, e, o_laid, at) = of_op in
        let one : op ≡ o = cc in
        let x_at : spot_of_item x ≡ place_in claim op = at ∙ ap (place_in claim) (sym one) in
        let op_laid : IsLaid op = subst IsLaid (sym one) o_laid in
        elim (laid.only y present).1 [
          | inl initial ↦ subst (λ (s : Spot). same_spot s (spot_of_item x) ≡ false) (sym initial) (subst (λ (s : Spot). same_spot (initial_place claim) s ≡ false) (sym x_at) (initial_away claim ops apart op op_present))
          | inr of_other ↦
              let (a, a_in, a_laid, a_at) = of_other in
              subst (λ (s : Spot). same_spot s (spot_of_item x) ≡ false) (sym a_at)
              (subst (λ (s : Spot). same_spot (place_in claim a) s ≡ false) (sym x_at)
              (op_away claim ops apart a op (in_ops a a_in) op_present a_laid op_laid (not_in_front front op rest (subst HasDistinctIds all apart.kept.ids) a a_in)))
        ]

    -- there is room for the next operation's item
    pub next_has_room : 0 < line.free
    next_has_room = let long = length-append front (op ∷ rest) in let same = ap length all in let left = laid.room in omega (arith, enough, long, same, left)

    pub next_is_new : (item : Option RowItem) → IsItemOf claim ops (Some op) item → IfSome item (λ x. item_at_spot (spot_of_item x) line.items ≡ None)
    next_is_new item item_is = place_is_new None item line.items (next_is_free item item_is)

    pub laid_next : (after : ReadContents) (item : Option RowItem) → IsItemOf claim ops (Some op) item → after.items ≡ items_with item line.items → line.free ≤ after.free + 1 → AreLaid claim ops (front ++ op ∷ []) places after
    laid_next after item item_is are room =
        let ex = is_exchanged None item line.items (next_is_free item item_is) in
        let stays = λ (x : RowItem) (h : Contains line.items x). subst (λ (l : List RowItem). Contains l x) (sym are) (ex.kept x h tt) in
        record {
          only = λ x h. elim (ex.only x (subst (λ (l : List RowItem). Contains l x) are h)) [
            | inl old ↦
                let (x_is, place) = laid.only x old.0 in
                (x_is, elim place [ inl initial ↦ inl initial | inr of_op ↦ inr (of_op.0, Contains-append_left front (op ∷ []) of_op.0 of_op.1, of_op.2, of_op.3) ])
            | inr e ↦
                let (x_is, of_op) = item_is.is x e in
                let (o, own, o_laid, at) = of_op in
                let one : op ≡ o = cc in
                (x_is, inr (op, Contains-push front op, subst IsLaid (sym one) o_laid, at ∙ ap (place_in claim) (sym one)))
          ];
          initial = let (x, h, at) = laid.initial in (x, stays x h, at);
          each = λ o h o_laid. elim (Contains-push_cases front op o h) [
            | inl among ↦ let (x, x_in, at) = laid.each o among o_laid in (x, stays x x_in, at)
            | inr same ↦
                let (x, e) = item_is.there o (ap Some same) o_laid in
                let (x_is, of_op) = item_is.is x e in
                let (p, own, p_laid, at) = of_op in
                let one : p ≡ o = cc in
                (x, subst (λ (l : List RowItem). Contains l x) (sym are) (ex.put x e), at ∙ ap (place_in claim) one)
          ];
          room = let two = laid.room in let long = length-append front (op ∷ []) in omega (arith, two, room, long);
        }

  -- once all operations are laid the items are theirs
  pub laid_all : (places : ℕ) (line : ReadContents) → AreItemsInOrder line.items → AreLaid claim ops ops places line → AreItemsOf claim ops line.items
  laid_all places line order laid = record {
    order = order;
    each = λ x is. elim (of_which claim ops apart x is) [
      | inl initial ↦ let (y, y_in, at) = laid.initial in subst (λ (z : RowItem). Contains line.items z) (sym (items_told claim ops apart x y is (laid.only y y_in).0 (initial ∙ sym at))) y_in
      | inr of_op ↦
          let (o, o_in, o_laid, x_at) = of_op in
          let (y, y_in, at) = laid.each o o_in o_laid in
          subst (λ (z : RowItem). Contains line.items z) (sym (items_told claim ops apart x y is (laid.only y y_in).0 (x_at ∙ sym at))) y_in
    ];
    only = λ x h. (laid.only x h).0;
  }
