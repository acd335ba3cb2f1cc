-- How the parts of a register's judge belong together after an edit.
use Rattle.std.proofs.Common.{◌≡◌, ℕ, ◌≤◌, ◌+◌, List, [], length, Option, Some, None, Bool, true, false, cond, ◌||◌, refl, sym, ap, ◌∙◌, subst, arith}
use Rattle.std.specs.Prelude.{IfSome, IsNone, IsSome, is_some}
use Rattle.std.proofs.lemmas.Bool.{both_ways}
use Rattle.std.proofs.lemmas.List.{length-map}
use Rattle.std.proofs.lemmas.List.Sorted.{length_permutation}
use Rattle.intervals.specs.declared.operation.Op.{Op}
use Rattle.intervals.specs.declared.operation.Value.{Value}
use Rattle.intervals.specs.declared.edit.Edit.{Edit}
use Rattle.intervals.specs.declared.target.Target.{Target}
use Rattle.intervals.specs.Operation.{IsWrite, is_write, value_of, writes}
use Rattle.intervals.specs.Edit.{new_op, edited, edit_id, found_by}
use Rattle.intervals.specs.Refusal.{reply_to}
use Rattle.intervals.specs.declared.claim.Kind.TheVariants.{Atomic}
use Rattle.intervals.specs.Table.{TableModel, prepared_after}
use Rattle.intervals.specs.Target.{IsTargetOf}
use Rattle.intervals.specs.Terms.{ClaimModel, state_of}
use Rattle.zone_tree.specs.declared.zone.Zone.{Zone}
use Rattle.zone_tree.specs.declared.stretch.Stretch.{Stretch}
use Rattle.zone_tree.specs.StretchOrder.{StretchContents as Stretches}
use Rattle.zone_tree.specs.Order.{ZoneContents as Zones, StandInOrder}
use Rattle.zones.specs.declared.index.Members.{Members}
use Rattle.zones.specs.declared.records.Records.{Records}
use Rattle.zones.specs.Cluster.{values_from, written_zone, zones_from}
use Rattle.zones.specs.Faults.{AreStretched, AreStretchesAt, CanStretch, IsStretchAtSome, stretch_shape}
use Rattle.zones.specs.Index.{AreMembers, HasPlaces, HasPlacesOf, ReservesOnlyForMember}
use Rattle.zones.specs.Members.{IsChange}
use Rattle.zones.specs.Records.{AreRecords, room_in}
use Rattle.zones.specs.Together.{HasRoomInClusters, AreOfOneRegister}
use Rattle.zones.specs.Moves.{AreExchanged, IsThere}
use Rattle.zones.specs.Zoned.{AreZoned, AreZonesAt, CanExchange, NeedsNoRoom, AreManyWriters, judged_part, other_value, value_in, zone_shape}
use Rattle.zones.proofs.Members.{in_none}
use Rattle.zones.proofs.Edited.{apart_kept, apart_none, change_of_edit}
use Rattle.zones.proofs.InTree.{zones_each_once}
use Rattle.zones.proofs.Lengths.{kept_length}
use Rattle.zones.proofs.Moved.{can_move, keeps_room, moved_zoned, zone_gone}
use Rattle.zones.proofs.Stretches.{moved_stretched, stretch_present, stretched_none, stretches_are_new}

-- without operations the tree has no zones
zoned_none : AreZoned [] []
zoned_none = record { each = λ v (w, is). absurd (in_none w is.present); only = λ z h. absurd (in_none z h) }

-- a tree of a register has as many zones as there are writes
pub as_many_writes : (claim : ClaimModel) (ops : List Op) (tree : List Zone) → AreManyWriters claim ops → StandInOrder tree → AreZoned ops tree → length tree ≡ length (writes ops)
as_many_writes claim ops tree apart order zoned =
    length_permutation (zones_from None ops) tree (zones_each_once ops tree apart.kept.moments (apart.kept.values apart.atomic).apart order zoned)
    ∙ (length-map (values_from None ops) (written_zone ops) ∙ length-map (writes ops) (λ w. value_of w.act))

pub room_of_none : (members : Members) (records : Records) (zones : Zones) (stretches : Stretches) (prepared : Option Op) → prepared ≡ None → IfSome prepared (HasRoomInClusters members records zones stretches)
room_of_none members records zones stretches prepared e = subst (λ (p : Option Op). IfSome p (HasRoomInClusters members records zones stretches)) (sym e) tt

pub room_of_one : (members : Members) (records : Records) (zones : Zones) (stretches : Stretches) (prepared : Option Op) (op : Op) → prepared ≡ Some op → HasPlaces op members → 1 ≤ room_in records → 2 ≤ zones.free → length zones.zones + 6 ≤ stretches.free → IfSome prepared (HasRoomInClusters members records zones stretches)
room_of_one members records zones stretches prepared op e places one more most =
    subst (λ (p : Option Op). IfSome p (HasRoomInClusters members records zones stretches)) (sym e) (record { places = places; records_free = one; zones_free = more; stretches_free = most })

-- the parts belong together without operations
pub together_at_first : (claim : ClaimModel) → claim.kind ≡ Atomic → (table : TableModel) (members : Members) (records : Records) (zones : Zones) (stretches : Stretches) → table ≡ record { ops = []; prepared = None } → AreMembers [] members → AreRecords [] records → ReservesOnlyForMember None members
    → zones.zones ≡ [] → stretches.stretches ≡ [] → 2 ≤ stretches.free → AreOfOneRegister claim table members records zones stretches
together_at_first claim atomic table members records zones stretches e are recorded only no_zones none enough =
    subst (λ (t : TableModel). AreOfOneRegister claim t members records zones stretches) (sym e) (record {
      apart = apart_none claim atomic;
      members_of = are;
      records_of = recorded;
      zoned = subst (AreZoned []) (sym no_zones) zoned_none;
      stretched = subst (AreStretched claim []) (sym none) (stretched_none claim);
      spare = subst (λ (l : List Zone). length l + 2 ≤ stretches.free) (sym no_zones) enough;
      room = tt;
      only = only;
    })

-- the parts belong together where the operations stay
pub together_kept : (claim : ClaimModel) (table other : TableModel) (members changed : Members) (records moved : Records) (zones others : Zones) (stretches rest : Stretches) → AreOfOneRegister claim table members records zones stretches
    → other.ops ≡ table.ops → AreMembers table.ops changed → AreRecords table.ops moved → others.zones ≡ zones.zones → rest.stretches ≡ stretches.stretches → stretches.free ≤ rest.free → IfSome other.prepared (HasRoomInClusters changed moved others rest) → ReservesOnlyForMember other.prepared changed → AreOfOneRegister claim other changed moved others rest
together_kept claim table other members changed records moved zones others stretches rest together same are recorded zones_same rest_same more room only = record {
  apart = subst (AreManyWriters claim) (sym same) together.apart;
  members_of = subst (λ (l : List Op). AreMembers l changed) (sym same) are;
  records_of = subst (λ (l : List Op). AreRecords l moved) (sym same) recorded;
  zoned = subst (λ (l : List Op). AreZoned l others.zones) (sym same) (subst (AreZoned table.ops) (sym zones_same) together.zoned);
  stretched = subst (λ (l : List Op). AreStretched claim l rest.stretches) (sym same) (subst (AreStretched claim table.ops) (sym rest_same) together.stretched);
  spare = subst (λ (l : List Zone). length l + 2 ≤ rest.free) (sym zones_same) (let a = together.spare in omega (arith, more));
  room = room;
  only = only;
}

-- the judged part of a new operation that is prepared is prepared
pub judged_prepared : (new prepared : Option Op) → IfSome new (λ op. prepared ≡ Some op) → IfSome (judged_part new) (λ op. prepared ≡ Some op)
judged_prepared None prepared h = tt
judged_prepared (Some op) prepared h = by_cases (is_write op || is_some op.end)
  where
    by_cases : (t : Bool) → IfSome (cond t (Some op) None) (λ op. prepared ≡ Some op)
    by_cases true = h
    by_cases false = tt

some_part : (new : Option Op) → IsSome (judged_part new) → (op : Op) × (new ≡ Some op)
some_part None some = absurd (cc)
some_part (Some op) some = (op, refl)

-- the room of the prepared operation
module _ (members : Members) (records : Records) (zones : Zones) (stretches : Stretches) (prepared : Option Op) (room : IfSome prepared (HasRoomInClusters members records zones stretches)) where
  pub room_for : (new : Option Op) → IfSome new (λ op. prepared ≡ Some op) → IsSome (judged_part new) → (2 ≤ zones.free) × (length zones.zones + 6 ≤ stretches.free) × (1 ≤ room_in records)
  room_for new is some =
      let (op, e) = some_part new some in
      let at : prepared ≡ Some op = subst (λ (n : Option Op). IfSome n (λ op. prepared ≡ Some op)) e is in
      let h : HasRoomInClusters members records zones stretches op = subst (λ (p : Option Op). IfSome p (HasRoomInClusters members records zones stretches)) at room in
      (h.zones_free, h.stretches_free, h.records_free)

  -- the room stays where there is no new operation
  module _ (after : Members) (records_after : Records) (zones_after : Zones) (stretches_after : Stretches) (new : Option Op) (places : HasPlacesOf prepared after)
      (records_kept : judged_part new ≡ None → room_in records ≤ room_in records_after)
      (zones_kept : judged_part new ≡ None → zones.free ≤ zones_after.free) (stretches_kept : judged_part new ≡ None → length zones_after.zones + stretches.free ≤ length zones.zones + stretches_after.free) where
    pub room_after : IfSome (prepared_after new prepared) (HasRoomInClusters after records_after zones_after stretches_after)
    room_after = by_cases new prepared room places records_kept zones_kept stretches_kept
      where
        by_cases : (n p : Option Op) → IfSome p (HasRoomInClusters members records zones stretches) → HasPlacesOf p after → (judged_part n ≡ None → room_in records ≤ room_in records_after) → (judged_part n ≡ None → zones.free ≤ zones_after.free)
            → (judged_part n ≡ None → length zones_after.zones + stretches.free ≤ length zones.zones + stretches_after.free)
            → IfSome (prepared_after n p) (HasRoomInClusters after records_after zones_after stretches_after)
        by_cases (Some op) p h places one more most = tt
        by_cases None None h places one more most = tt
        by_cases None (Some op) h places one more most = record {
          places = places;
          records_free = (let a = h.records_free in let b = one refl in omega arith);
          zones_free = (let a = h.zones_free in let b = more refl in omega arith);
          stretches_free = (let a = h.stretches_free in let b = most refl in omega arith);
        }

  -- enough places are left for stretches
  pub spare_after : length zones.zones + 2 ≤ stretches.free → (new : Option Op) → IfSome new (λ op. prepared ≡ Some op) → (zones_after : List Zone) (free : ℕ)
      → (judged_part new ≡ None → length zones_after + stretches.free ≤ length zones.zones + free) → length zones_after ≤ length zones.zones + 2 → stretches.free ≤ free + 2 → length zones_after + 2 ≤ free
  spare_after spare new is zones_after free kept more most = by_cases (judged_part new) refl
    where
      by_cases : (part : Option Op) → judged_part new ≡ part → length zones_after + 2 ≤ free
      by_cases None e = omega (arith, spare, kept e)
      by_cases (Some op) e = omega (arith, (room_for new is (ap is_some e)).1, more, most)

-- what is asked of an edit: nothing refuses it, the target is its own, and its new operation is prepared
pub record IsAsked (claim : ClaimModel) (ops : List Op) (prepared : Option Op) (edit : Edit) (target : Target) : Type 0 where
  pub accepted : reply_to (state_of claim ops) edit ≡ None
  pub target_is : IsTargetOf ops edit target
  pub held : IfSome target.new (λ op. prepared ≡ Some op)

-- the value of what comes, where it is another than that of what goes
abbrev pub came : Option Op → Option Op → Option Value
came old new = other_value (value_in old) (value_in new)

-- an edit that nothing refuses, of many writers: `old` and `new` are the optional judged operations that go and that
-- come, and `after` are the operations after it
pub record IsMade (claim : ClaimModel) (ops : List Op) (edit : Edit) (old new : Option Op) (after : List Op) : Type 0 where
  pub apart : AreManyWriters claim ops
  pub accepted : reply_to (state_of claim ops) edit ≡ None
  pub goes : old ≡ judged_part (found_by ops (edit_id edit))
  pub comes : new ≡ judged_part (new_op ops edit)
  pub made : after ≡ edited ops edit

module _ {claim : ClaimModel} {ops : List Op} {edit : Edit} {old new : Option Op} {after : List Op} (is_made : IsMade claim ops edit old new after) where
  apart : AreManyWriters claim ops
  apart = is_made.apart

  pub apart_after : AreManyWriters claim after
  apart_after = subst (AreManyWriters claim) (sym is_made.made) (apart_kept claim ops edit apart is_made.accepted)

  pub change_is : IsChange ops old new after
  change_is =
      subst (λ (o : Option Op). IsChange ops o new after) (sym is_made.goes)
      (subst (λ (n : Option Op). IsChange ops (judged_part (found_by ops (edit_id edit))) n after) (sym is_made.comes)
      (subst (λ (l : List Op). IsChange ops (judged_part (found_by ops (edit_id edit))) (judged_part (new_op ops edit)) l) (sym is_made.made) (change_of_edit claim ops edit apart is_made.accepted)))

  module _ (earlier later : Option Zone × Option Zone) (tree : Zones) (zoned : AreZoned ops tree.zones) (earlier_is : AreZonesAt ops (value_in old) (came old new) earlier) (later_is : AreZonesAt after (value_in old) (came old new) later) where
    pub can_exchange_zones : (IsSome new → 2 ≤ tree.free) → CanExchange tree earlier later
    can_exchange_zones enough gone come changes =
        can_move ops old new after change_is apart.kept.moments apart_after.kept.moments tree.zones zoned earlier later gone come changes earlier_is later_is tree.free tree.steps enough

    pub zones_need_no_room : new ≡ None → NeedsNoRoom tree.zones earlier later
    zones_need_no_room none gone come changes =
        keeps_room ops old new after change_is apart.kept.moments apart_after.kept.moments tree.zones zoned earlier later gone come changes earlier_is later_is none

    pub zoned_after : (result : List Zone) → AreExchanged zone_shape earlier later tree.zones result → AreZoned after result
    zoned_after result is =
        subst (AreZoned after) (sym is.moves)
        (moved_zoned ops old new after change_is apart.kept.moments apart_after.kept.moments tree.zones zoned earlier later is.gone is.come is.changes earlier_is later_is)

    -- where nothing comes there are no more zones than before
    pub no_more_zones : new ≡ None → (result : List Zone) → AreExchanged zone_shape earlier later tree.zones result → length result ≤ length tree.zones
    no_more_zones none result is = kept_length is.gone is.come tree.zones result (zones_need_no_room none is.gone is.come is.changes) is.moves

    pub fewer_zones : new ≡ None → (w : Op) → old ≡ Some w → IsWrite w → (result : List Zone) → AreExchanged zone_shape earlier later tree.zones result → length result + 1 ≤ length tree.zones
    fewer_zones none w e write result is =
        zone_gone ops old new after change_is tree.zones zoned earlier later earlier_is later_is none w e write is.gone is.come is.changes
        (zones_need_no_room none is.gone is.come is.changes).other result is.moves

  module _ (earlier later : Option Stretch × Option Stretch) (tree : Stretches) (stretched : AreStretched claim ops tree.stretches)
      (earlier_is : AreStretchesAt claim ops (value_in old) (came old new) earlier) (later_is : AreStretchesAt claim after (value_in old) (came old new) later) where
    pub can_exchange_stretches : CanStretch tree.stretches earlier later
    can_exchange_stretches gone come changes =
        stretches_are_new claim ops old new after change_is apart.kept.moments apart_after.kept.moments tree.stretches stretched earlier later earlier_is later_is gone come changes

    pub stretched_after : (result : List Stretch) → AreExchanged stretch_shape earlier later tree.stretches result → AreStretched claim after result
    stretched_after result is =
        subst (AreStretched claim after) (sym is.moves)
        (moved_stretched claim ops old new after change_is apart.kept.moments apart_after.kept.moments tree.stretches stretched earlier later earlier_is later_is is.gone is.come is.changes)

    -- where nothing comes there is no second stretch
    pub no_second : new ≡ None → IsNone later.1
    no_second none = second_none (value_in old) (value_in new) (ap value_in none) later.1 later_is.other
      where
        second_none : (f s : Option Value) → s ≡ None → (found : Option Stretch) → IsStretchAtSome claim after (other_value f s) found → IsNone found
        second_none None s e found is = (let at : found ≡ None = subst (λ (u : Option Value). IsStretchAtSome claim after u found) e is in ap is_some at)
        second_none (Some u) None e found is = ap is_some is
        second_none (Some u) (Some v) e found is = absurd (cc)

    pub present_for : new ≡ None → ((op : Op) → old ≡ Some op → ¬ IsWrite op) → IsSome later.0 → IsThere tree.stretches earlier.0
    present_for none reads =
        stretch_present claim ops old new after change_is apart.kept.moments apart_after.kept.moments tree.stretches stretched earlier later earlier_is later_is none reads

  -- where nothing comes each stretch that comes takes the place of one that goes, or that of a write
  pub room_left : new ≡ None
      → (earlier later : Option Zone × Option Zone) (zones : Zones) → AreZoned ops zones.zones → AreZonesAt ops (value_in old) (came old new) earlier → AreZonesAt after (value_in old) (came old new) later
      → (result : List Zone) → AreExchanged zone_shape earlier later zones.zones result
      → (was is : Option Stretch × Option Stretch) (stretches : Stretches) → AreStretched claim ops stretches.stretches → AreStretchesAt claim ops (value_in old) (came old new) was → AreStretchesAt claim after (value_in old) (came old new) is
      → (free : ℕ) → (IsNone is.1 → stretches.free ≤ free + 1) → (IsNone is.1 → (IsSome is.0 → IsThere stretches.stretches was.0) → stretches.free ≤ free)
      → length result + stretches.free ≤ length zones.zones + free
  room_left none earlier later zones zoned earlier_is later_is result exchanged was is stretches stretched was_is is_is free one kept = by_old old refl
    where
      second_none : IsNone is.1
      second_none = no_second was is stretches stretched was_is is_is none

      where_reads : ((op : Op) → old ≡ Some op → ¬ IsWrite op) → length result + stretches.free ≤ length zones.zones + free
      where_reads reads =
          omega (
            arith,
            no_more_zones earlier later zones zoned earlier_is later_is none result exchanged,
            kept second_none (present_for was is stretches stretched was_is is_is none reads),
          )

      by_write : (op : Op) → old ≡ Some op → (t : Bool) → is_write op ≡ t → length result + stretches.free ≤ length zones.zones + free
      by_write op e true t = omega (arith, fewer_zones earlier later zones zoned earlier_is later_is none op e t result exchanged, one second_none)
      by_write op e false t =
          where_reads (λ x f write. let same : op ≡ x = let both : Some op ≡ Some x = sym e ∙ f in cc in both_ways (is_write op) t (subst IsWrite (sym same) write))

      by_old : (o : Option Op) → old ≡ o → length result + stretches.free ≤ length zones.zones + free
      by_old None e = where_reads (λ x f. absurd (let g : None ≡ Some x = sym e ∙ f in cc))
      by_old (Some op) e = by_write op e (is_write op) refl
