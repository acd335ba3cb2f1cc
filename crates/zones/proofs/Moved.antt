-- Zones in a tree: what an edit takes out and puts in.
use Rattle.std.proofs.Common.{◌≡◌, ◌≢◌, ◌⊎◌, ◌+◌, ◌≤◌, ℕ, inl, inr, List, length, Option, Some, None, refl, sym, ap, ◌∙◌, subst}
use Rattle.std.specs.Prelude.{Contains, IfSome, IsSome}
use Rattle.intervals.specs.declared.operation.Op.{Op}
use Rattle.intervals.specs.declared.operation.Value.{Value}
use Rattle.intervals.specs.Operation.{IsWrite, judged, value_of}
use Rattle.intervals.specs.Standing.{HasDistinctMoments}
use Rattle.zone_tree.specs.declared.zone.Zone.{Zone}
use Rattle.zone_tree.proofs.EdgeOrder.{edge_exact, edge_order}
use Rattle.zones.specs.Cluster.{written_zone}
use Rattle.zones.specs.Members.{HasWrite, IsChange}
use Rattle.zones.specs.Moves.{AreChanges, AreNew, IsChangeAt, KeepsRoom, IsThere, moved}
use Rattle.zones.specs.Zoned.{AreZoned, AreZonesAt, CanMove, IsZoneAt, IsZoneAtSome, other_value, value_in, zone_shape}
use Rattle.zones.proofs.Judged.{is_judged, judged_write}
use Rattle.zones.proofs.Lengths.{gone_length}
use Rattle.zones.proofs.Members.{kept, kept_present}
use Rattle.zones.proofs.PerValue.{StandForValues, HasItemsBut, IsItemForSome, IsUntouched, KeepsItem, moved_tree, tree_is_new, tree_keeps_room}
use Rattle.zones.proofs.Written.{one_left, write_still, write_stood, written_in_order, written_value, written_zone_kept}

zones_stand : (ops : List Op) → HasDistinctMoments ops → StandForValues zone_shape (HasWrite ops) (written_zone ops)
zones_stand ops moments = record {
  value = written_value ops;
  may_stand = written_in_order ops;
  one_key = one_left ops moments;
}

zone_for : (ops : List Op) (value : Option Value) (found : Option Zone) → IsZoneAtSome ops value found → IsItemForSome (HasWrite ops) (written_zone ops) value found
zone_for ops None found is = is
zone_for ops (Some value) found is = record { item = is.zone; none = is.none; some = is.some }

-- the zones that an edit changes are moved
module _ (before : List Op) (old new : Option Op) (after : List Op) (change : IsChange before old new after)
    (moments : HasDistinctMoments before) (moments_after : HasDistinctMoments after) (zones : List Zone) (zoned : AreZoned before zones)
    (earlier later gone come : Option Zone × Option Zone) (changes : AreChanges earlier later gone come)
    (earlier_is : AreZonesAt before (value_in old) (other_value (value_in old) (value_in new)) earlier)
    (later_is : AreZonesAt after (value_in old) (other_value (value_in old) (value_in new)) later) where
  kept_where : (v : Value) → IsUntouched old new v → KeepsItem (HasWrite before) (HasWrite after) (written_zone before) (written_zone after) v
  kept_where v is = record {
    still = write_still before old new after change v is.by_old;
    stood = write_stood before old new after change v is.by_new;
    same = λ had. written_zone_kept before old new after change v is.by_old is.by_new;
  }

  tree : HasItemsBut zone_shape (HasWrite before) (written_zone before) (λ v. ⊥) zones
  tree = record {
    each = λ v written out. zoned.each v written;
    only = λ z h. let (written, e) = zoned.only z h in (written, (λ n. n), e);
  }

  abbrev first : Option Value
  first = value_in old

  abbrev second : Option Value
  second = other_value (value_in old) (value_in new)

  pub moved_zoned : AreZoned after (moved zone_shape gone come zones)
  moved_zoned =
      let whole =
      moved_tree zone_shape edge_order edge_exact old new (HasWrite before) (HasWrite after) (written_zone before) (written_zone after)
      (zones_stand before moments) (zones_stand after moments_after) kept_where zones tree earlier later gone come changes
      (zone_for before first earlier.0 earlier_is.one) (zone_for before second earlier.1 earlier_is.other)
      (zone_for after first later.0 later_is.one) (zone_for after second later.1 later_is.other)
      in
      record {
        each = λ v written. whole.each v written (λ n. n);
        only = λ z h. let (written, in_tree, e) = whole.only z h in (written, e);
      }

  new_zones : AreNew zone_shape zones gone come
  new_zones =
      tree_is_new zone_shape edge_order edge_exact old new (HasWrite before) (HasWrite after) (written_zone before) (written_zone after)
      (zones_stand before moments) (zones_stand after moments_after) kept_where zones tree earlier later gone come changes
      (zone_for before first earlier.0 earlier_is.one) (zone_for before second earlier.1 earlier_is.other)
      (zone_for after first later.0 later_is.one) (zone_for after second later.1 later_is.other)

  pub keeps_room : new ≡ None → KeepsRoom zones gone come
  keeps_room none =
      tree_keeps_room zone_shape edge_order edge_exact old new (HasWrite before) (HasWrite after) (written_zone before) (written_zone after)
      (zones_stand before moments) (zones_stand after moments_after) kept_where zones tree earlier later gone come changes
      (zone_for before first earlier.0 earlier_is.one) (zone_for before second earlier.1 earlier_is.other)
      (zone_for after first later.0 later_is.one) (zone_for after second later.1 later_is.other)
      (λ v. write_stood before old new after change v (λ op f. absurd (let g : None ≡ Some op = sym none ∙ f in cc))) none

  pub can_move : (free steps : ℕ) → (IsSome new → 2 ≤ free) → CanMove (record { zones = zones; free = free; steps = steps }) gone come
  can_move free steps enough = record { room = by_cases new refl enough; new = new_zones }
    where
      by_cases : (n : Option Op) → new ≡ n → (IsSome n → 2 ≤ free) → (2 ≤ free) ⊎ KeepsRoom zones gone come
      by_cases (Some op) e enough = inl (enough refl)
      by_cases None e enough = inr (keeps_room e)

-- where a write goes and nothing comes its zone goes
module _ (before : List Op) (old new : Option Op) (after : List Op) (change : IsChange before old new after) (zones : List Zone) (zoned : AreZoned before zones)
    (earlier later : Option Zone × Option Zone)
    (earlier_is : AreZonesAt before (value_in old) (other_value (value_in old) (value_in new)) earlier)
    (later_is : AreZonesAt after (value_in old) (other_value (value_in old) (value_in new)) later)
    (none : new ≡ None) (w : Op) (e : old ≡ Some w) (write : IsWrite w) where
  present : Contains (judged before) w
  present = subst (λ (o : Option Op). IfSome o (λ op. Contains (judged before) op)) e change.goes

  had : HasWrite before (value_of w.act)
  had = (w, record { present = (kept_present is_judged before w present).0; write = write; same = refl })

  has_no : ¬ HasWrite after (value_of w.act)
  has_no (x, is) = by_cases (change.stood x (kept is_judged after x is.present (judged_write x is.write)))
    where
      by_cases : (new ≡ Some x) ⊎ (Contains (judged before) x × (old ≢ Some x)) → ⊥
      by_cases (inl f) = absurd (let g : None ≡ Some x = sym none ∙ f in cc)
      by_cases (inr (h, n)) = n (e ∙ ap Some (change.apart_before.by_value w x present h (sym is.same) write is.write))

  at_first : IsZoneAt before (value_of w.act) earlier.0
  at_first = subst (λ (o : Option Op). IsZoneAtSome before (value_in o) earlier.0) e earlier_is.one

  at_last : IsZoneAt after (value_of w.act) later.0
  at_last = subst (λ (o : Option Op). IsZoneAtSome after (value_in o) later.0) e later_is.one

  stood : (found : Option Zone) → IsZoneAt before (value_of w.act) found → IsThere zones found
  stood None is = absurd (is.none refl had)
  stood (Some zone) is = subst (Contains zones) (sym is.zone) (zoned.each (value_of w.act) had)

  not_there : (found : Option Zone) → IsZoneAt after (value_of w.act) found → found ≡ None
  not_there None is = refl
  not_there (Some zone) is = absurd (has_no (is.some refl))

  pub zone_gone : (gone come : Option Zone × Option Zone) → AreChanges earlier later gone come → come.1 ≡ None → (result : List Zone) → result ≡ moved zone_shape gone come zones → length result + 1 ≤ length zones
  zone_gone gone come changes second result is = by_cases changes.one
    where
      there : IsThere zones earlier.0
      there = stood earlier.0 at_first

      by_cases : IsChangeAt earlier.0 later.0 (gone.0, come.0) → length result + 1 ≤ length zones
      by_cases (inl f) =
          gone_length gone come zones result (subst (IsThere zones) (sym (ap (λ (p : Option Zone × Option Zone). p.0) f)) there)
          (ap (λ (p : Option Zone × Option Zone). p.1) f ∙ not_there later.0 at_last) second is
      by_cases (inr (same, f)) = absurd (subst (IsThere zones) (same ∙ not_there later.0 at_last) there)
