-- The parts of a judge agree after an edit.
use Rattle.std.proofs.Common.{◌≡◌, ℕ, ◌+◌, ◌≤◌, inl, inr, Bool, true, false, not, List, [], ◌∷◌, length, Option, Some, None, refl, sym, ◌∙◌, cond, filter, subst, length-append, arith}
use Rattle.std.specs.Prelude.{◌<◌, Contains, IfSome, IsSome}
use Rattle.std.proofs.lemmas.Bool.{both_ways}
use Rattle.std.proofs.lemmas.List.{length-map}
use Rattle.intervals.specs.declared.operation.Op.{Op}
use Rattle.intervals.specs.declared.edit.Edit.{Edit}
use Rattle.intervals.specs.declared.edit.Edit.TheVariants.{Append, Amend, Withdraw, Claim}
use Rattle.intervals.specs.Edit.{amended, edited, new_op, edit_id, found_by, has_id}
use Rattle.intervals.specs.Operation.{same_id}
use Rattle.intervals.specs.Refusal.{reply_to}
use Rattle.intervals.specs.Table.{prepared_after}
use Rattle.intervals.specs.Terms.{ClaimModel, state_of}
use Rattle.intervals.proofs.Accepted.{edit_accepted}
use Rattle.read_tree.specs.declared.item.RowItem.{RowItem}
use Rattle.read_tree.specs.Items.{AreItemsInOrder, ReadContents}
use Rattle.safe_regular.specs.declared.reads.Reads.{Reads}
use Rattle.safe_regular.specs.declared.writes.Writes.{Writes}
use Rattle.safe_regular.specs.Held.{AreOneWriters, CanJudge, HasReadRoom, HasRoomForOperation}
use Rattle.safe_regular.specs.RowItems.{AreItemsOf, IsChanged, IsCoverBefore, IsCoverBeforeNew, IsRenewed, MayBeChanged}
use Rattle.safe_regular.specs.Writes.{AreWrites, HasPlaceIn, ReservesOnlyForWrite, IsAddedOf}
use Rattle.safe_regular.specs.Change.{IsAmong, IsChangeOf, more_by}
use Rattle.safe_regular.proofs.Changed.{others_of, other_present, other_apart, before_cases, other_after, new_present, after_cases, goes, comes}
use Rattle.intervals.proofs.Ids.{found_present}
use Rattle.safe_regular.proofs.Edited.{apart_kept}
use Rattle.safe_regular.proofs.Kept.{front_stays, own_cover_present}
use Rattle.safe_regular.proofs.Laid.{items_after, place_is_free, place_is_taken}
use Rattle.safe_regular.proofs.Told.{writes_apart}

-- the new operation uses the room of the prepared one; without a new one the room stays
pub room_after : (writes writes' : Writes) (ops listed : List Op) (reads reads' : Reads) (prepared new after : Option Op) → IfSome prepared (HasRoomForOperation writes ops reads) → HasPlaceIn prepared writes'
    → (new ≡ None → HasReadRoom ops reads → HasReadRoom listed reads') → after ≡ prepared_after new prepared → IfSome after (HasRoomForOperation writes' listed reads')
room_after writes writes' ops listed reads reads' prepared (Some op) after room place free e = rw e tt
room_after writes writes' ops listed reads reads' None None after room place free e = rw e tt
room_after writes writes' ops listed reads reads' (Some op) None after room place free e = rw e (record { place = place; free = free refl room.free })

-- there is room for the new operation
pub room_for_new : (writes : Writes) (ops : List Op) (reads : Reads) (prepared new : Option Op) → IfSome prepared (HasRoomForOperation writes ops reads) → IfSome new (λ op. prepared ≡ Some op) → IsSome new → HasReadRoom ops reads
room_for_new writes ops reads prepared None room is some = absurd (cc)
room_for_new writes ops reads prepared (Some o) room is some =
    let there : HasRoomForOperation writes ops reads o = subst (λ (p : Option Op). IfSome p (HasRoomForOperation writes ops reads)) is room in
    there.free

-- an edit adds one operation at most
filter_shorter : (test : Op → Bool) (ops : List Op) → length (filter test ops) ≤ length ops
filter_shorter test [] = omega arith
filter_shorter test (a ∷ ops) = by_test (test a) (filter_shorter test ops)
  where
    by_test : (t : Bool) → length (filter test ops) ≤ length ops → length (cond t (a ∷ filter test ops) (filter test ops)) ≤ length (a ∷ ops)
    by_test true le = omega (arith, le)
    by_test false le = omega (arith, le)

more_by_none : (n : ℕ) (o : Option Op) → n ≤ n + more_by o
more_by_none n None = omega arith
more_by_none n (Some op) = omega arith

count_edited : (ops : List Op) (edit : Edit) → length (edited ops edit) ≤ length ops + more_by (new_op ops edit)
count_edited ops (Append op) = let long = length-append ops (op ∷ []) in omega (arith, long)
count_edited ops (Amend id change) = rw (length-map ops (amended id change)) (more_by_none (length ops) (new_op ops (Amend id change)))
count_edited ops (Withdraw id) = let le = filter_shorter (λ op. not (same_id op.id id)) ops in omega (arith, le)
count_edited ops (Claim kind) = omega arith

module _ (claim : ClaimModel) (ops : List Op) (edit : Edit) (apart : AreOneWriters claim ops) (accepted : reply_to (state_of claim ops) edit ≡ None)
    (old new : Option Op) (old_is : old ≡ found_by ops (edit_id edit)) (new_is : new ≡ new_op ops edit) (listed : List Op) (listed_is : listed ≡ edited ops edit) where
  later : AreOneWriters claim (edited ops edit)
  later = apart_kept claim ops edit apart accepted

  pub later_listed : AreOneWriters claim listed
  later_listed = subst (AreOneWriters claim) (sym listed_is) later

  -- after the edit the index is that of the operations
  pub can_judge : (writes writes' : Writes) → AreWrites ops writes
      → ((before others after : List Op) → AreWrites before writes → IsAddedOf others old before → IsAddedOf others new after → AreWrites after writes') → CanJudge listed writes'
  can_judge writes writes' are change =
      let among : IsAddedOf (others_of ops (edit_id edit)) old ops = rw old_is (goes ops (edit_id edit) apart.kept.ids (writes_apart claim ops apart)) in
      let now : IsAddedOf (others_of ops (edit_id edit)) new (edited ops edit) = rw new_is (comes ops edit apart.kept.ids (edit_accepted (state_of claim ops) edit accepted) (writes_apart claim (edited ops edit) later)) in
      let both : CanJudge (edited ops edit) writes' = record { shelved = change ops (others_of ops (edit_id edit)) (edited ops edit) are among now; ids = later.kept.ids } in
      subst (λ (l : List Op). CanJudge l writes') (sym listed_is) both

  -- after the edit the index has no empty place but for what is still prepared
  pub only_for : (writes writes' : Writes) → AreWrites ops writes → (prepared : Option Op) → ReservesOnlyForWrite prepared writes
      → ((before others : List Op) → AreWrites before writes → IsAddedOf others old before → ReservesOnlyForWrite prepared writes → ReservesOnlyForWrite (prepared_after new prepared) writes') → ReservesOnlyForWrite (prepared_after new prepared) writes'
  only_for writes writes' are prepared only change =
      let among : IsAddedOf (others_of ops (edit_id edit)) old ops = rw old_is (goes ops (edit_id edit) apart.kept.ids (writes_apart claim ops apart)) in
      change ops (others_of ops (edit_id edit)) are among only

  abbrev others : List Op
  others = others_of ops (edit_id edit)

  was_among : (x : Op) → Contains ops x → IsAmong others old x
  was_among x h = subst (λ (o : Option Op). IsAmong others o x) (sym old_is) (before_cases ops (edit_id edit) apart.kept.ids x h)

  in_before : (x : Op) → IsAmong others old x → Contains ops x
  in_before x (inl h) = other_present ops (edit_id edit) x h
  in_before x (inr e) = (found_present ops (edit_id edit) x (sym old_is ∙ e)).0

  is_among : (x : Op) → Contains listed x → IsAmong others new x
  is_among x h = subst (λ (o : Option Op). IsAmong others o x) (sym new_is) (after_cases ops edit apart.kept.ids (edit_accepted (state_of claim ops) edit accepted) x (subst (λ (l : List Op). Contains l x) listed_is h))

  pub in_listed : (x : Op) → IsAmong others new x → Contains listed x
  in_listed x (inl h) = subst (λ (l : List Op). Contains l x) (sym listed_is) (other_after ops edit x h)
  in_listed x (inr e) = subst (λ (l : List Op). Contains l x) (sym listed_is) (new_present ops edit x (sym new_is ∙ e)).0

  other_than : (x y : Op) → Contains others x → has_id (edit_id edit) y ≡ true → ¬ (x ≡ y)
  other_than x y among t same = both_ways (has_id (edit_id edit) x) (other_apart ops (edit_id edit) x among) (subst (λ (o : Op). has_id (edit_id edit) o ≡ true) (sym same) t)

  not_old : (x y : Op) → Contains others x → old ≡ Some y → ¬ (x ≡ y)
  not_old x y among e = other_than x y among (found_present ops (edit_id edit) y (sym old_is ∙ e)).1

  not_new : (x y : Op) → Contains others x → new ≡ Some y → ¬ (x ≡ y)
  not_new x y among e = other_than x y among (new_present ops edit y (sym new_is ∙ e)).1

  -- what the edit does to the operations
  pub is_change : IsChangeOf claim ops listed old new
  is_change = record {
    others = others;
    apart_before = apart;
    apart_after = later_listed;
    was = was_among;
    in_before = in_before;
    is = is_among;
    in_after = in_listed;
    not_old = not_old;
    not_new = not_new;
    count = rw (listed_is, new_is) (count_edited ops edit);
  }

-- what a change does to the items
module _ (claim : ClaimModel) (ops listed : List Op) (old new : Option Op) (change : IsChangeOf claim ops listed old new) where
  -- the new operation is in the list after the edit
  pub new_listed : IfSome new (Contains listed)
  new_listed = by_cases new refl
    where
      by_cases : (o : Option Op) → new ≡ o → IfSome o (Contains listed)
      by_cases None e = tt
      by_cases (Some op) e = change.in_after op (inr e)

  -- without a new operation the list is no longer than before
  pub no_more_listed : new ≡ None → length listed ≤ length ops
  no_more_listed none = let le = subst (λ (o : Option Op). length listed ≤ length ops + more_by o) none change.count in omega (arith, le)

  module _ (line : ReadContents) (are : AreItemsOf claim ops line.items) where
    -- the tree is ready for the exchange of the old item for the new one
    pub may_be_changed : (IsSome new → 0 < line.free) → MayBeChanged claim listed old new line
    may_be_changed room = record {
      order = are.order;
      taken = place_is_taken claim ops old change.apart_before (λ o e. change.in_before o (inr e)) line.items are;
      apart = λ item item_is. place_is_free claim ops change.others listed old new change.apart_before change.apart_after change.was change.in_after change.not_new item item_is line.items are;
      room = room;
      kept = own_cover_present claim ops change.others listed old new change.apart_before change.apart_after change.was change.in_before change.is change.in_after line.items are;
    }

    pub laid_after : (left come : Option RowItem) → IsCoverBefore claim listed None old left → IsCoverBeforeNew claim listed old new come
        → (second third last : List RowItem) → IsChanged claim listed old new line.items second → IsRenewed left second third → AreItemsInOrder third → IsRenewed come third last → AreItemsInOrder last
        → AreItemsOf claim listed last
    laid_after left come left_is come_is second third last one two third_order three order = elim come_is [
      | inl is ↦ made come is three
      | inr stays ↦
          let (x, x_is, x_three) =
          front_stays claim ops change.others listed old new change.apart_before change.apart_after change.was change.in_before change.is change.in_after change.not_new line.items are stays.1 one.item left left_is second third last
          one.exchanged two third_order (subst (λ (c : Option RowItem). IsRenewed c third last) stays.0 three) in
          made x x_is x_three
    ]
      where
        made : (c : Option RowItem) → IsCoverBefore claim listed old new c → IsRenewed c third last → AreItemsOf claim listed last
        made c is c_three =
            items_after claim ops change.others listed old new change.apart_before change.apart_after change.was change.in_before change.is change.in_after change.not_old one.item left c one.is left_is is
            line.items second third last are one.exchanged two c_three order
