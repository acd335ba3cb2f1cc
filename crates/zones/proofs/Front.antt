-- The zone of the initial value, where there is one, before the zones of a tree.
use Rattle.std.proofs.Common.{◌≡◌, ◌↔◌, ◌⊎◌, inl, inr, true, false, List, ◌∷◌, Option, Some, None, refl, sym, ap, ◌∙◌, subst}
use Rattle.std.specs.Prelude.{All, Contains, IfSome, IsPermutation, IsSome, map}
use Rattle.std.proofs.lemmas.Bool.{both_ways}
use Rattle.intervals.specs.declared.operation.Op.{Op}
use Rattle.intervals.specs.declared.operation.Value.{Value}
use Rattle.intervals.specs.Operation.{value_of, same_value, writes}
use Rattle.intervals.specs.Kind.{HasNoWrite}
use Rattle.intervals.specs.Terms.{ClaimModel}
use Rattle.zone_tree.specs.declared.zone.Zone.{Zone}
use Rattle.zone_tree.specs.Conflict.{IsClean, IsFirstConflict}
use Rattle.zone_tree.specs.Edge.{ComesBefore}
use Rattle.zone_tree.specs.Order.{IsByLeft, StandInOrder}
use Rattle.zone_tree.specs.Zone.{HasOrderedEdges}
use Rattle.zones.specs.AtFirst.{initial_of, or_fresh, start_of}
use Rattle.zones.specs.Cluster.{values_from, zone_of, zones_from, zones_of}
use Rattle.zones.specs.Crossing.{HasFirstConflictFrom}
use Rattle.zones.specs.Members.{HasWrite}
use Rattle.zones.specs.Zoned.{AreManyWriters, AreZoned, IsZoneAt, MayStart, is_that}
use Rattle.zones.proofs.Cluster.{edges_in_order}
use Rattle.zones.proofs.EdgesOf.{found_where_written}
use Rattle.zones.proofs.InTree.{after_once, by_left_after, carried, has_write, present_before, zones_each_once}
use Rattle.zones.proofs.Members.{Decides-same_value, contains_cases, here, there}
use Rattle.zones.proofs.Start.{conflict_written, initial_not_written, start_not_written}
use Rattle.zones.proofs.Stretches.{no_write_at}
use Rattle.zones.proofs.Verdict.{clean_in, conflict_in}
use Rattle.zones.proofs.Written.{written_zone_is}
use Rattle.std.proofs.lemmas.List.Elements.{Contains-append_left, Contains-append_right}

module _ (claim : ClaimModel) (ops : List Op) (apart : AreManyWriters claim ops) (tree : List Zone) (order : StandInOrder tree) (zoned : AreZoned ops tree) where
  once : IsPermutation (zones_from None ops) tree
  once = zones_each_once ops tree apart.kept.moments (apart.kept.values apart.atomic).apart order zoned

  -- where there is an initial value
  module _ (v : Value) (is : initial_of claim ops ≡ Some v) (front : Zone) (front_is : front ≡ zone_of v ops v) where
    none_written : HasNoWrite ops v
    none_written = initial_not_written claim ops (apart.kept.values apart.atomic) v is

    pub front_in_order : HasOrderedEdges front
    front_in_order = subst HasOrderedEdges (sym front_is) (edges_in_order v ops v)

    pub front_before : All (λ z. ComesBefore front.left z.left) tree
    front_before = subst (λ (x : Zone). All (λ z. ComesBefore x.left z.left) tree) (sym front_is) (present_before v ops tree zoned)

    whole : IsPermutation (zones_of v ops) (front ∷ tree)
    whole = subst (λ (x : Zone). IsPermutation (zones_of v ops) (x ∷ tree)) (sym front_is) (after_once v ops tree none_written once)

    pub clean_with : (P : Type 0) → P ↔ IsClean (front ∷ tree) → P ↔ IsClean (zones_from (initial_of claim ops) ops)
    clean_with P c = subst (λ (i : Option Value). P ↔ IsClean (zones_from i ops)) (sym is) (clean_in (Some v) ops (front ∷ tree) whole P c)

    pub conflict_with : (found : Option (Zone × Zone)) → IfSome found (λ pair. IsFirstConflict (front ∷ tree) pair.0 pair.1) → IfSome found (λ pair. HasFirstConflictFrom (initial_of claim ops) ops pair.0 pair.1)
    conflict_with found c =
        subst (λ (i : Option Value). IfSome found (λ pair. HasFirstConflictFrom i ops pair.0 pair.1)) (sym is)
        (conflict_in (Some v) ops (front ∷ tree) whole found
        (subst (λ (x : Zone). IsByLeft (x ∷ tree)) (sym front_is) (by_left_after v ops tree zoned order.by_left)) c)

  -- where there is none
  module _ (is : initial_of claim ops ≡ None) where
    pub clean_without : (P : Type 0) → P ↔ IsClean tree → P ↔ IsClean (zones_from (initial_of claim ops) ops)
    clean_without P c = subst (λ (i : Option Value). P ↔ IsClean (zones_from i ops)) (sym is) (clean_in None ops tree once P c)

    pub conflict_without : (found : Option (Zone × Zone)) → IfSome found (λ pair. IsFirstConflict tree pair.0 pair.1) → IfSome found (λ pair. HasFirstConflictFrom (initial_of claim ops) ops pair.0 pair.1)
    conflict_without found c =
        subst (λ (i : Option Value). IfSome found (λ pair. HasFirstConflictFrom i ops pair.0 pair.1)) (sym is) (conflict_in None ops tree once found order.by_left c)

-- the value is the initial one
that_is : (initial : Option Value) (v : Value) → is_that initial v ≡ true → initial ≡ Some v
that_is None v t = absurd (cc)
that_is (Some u) v t = ap Some ((Decides-same_value u v).0 t)

module _ (claim : ClaimModel) (ops : List Op) (apart : AreManyWriters claim ops) (v : Value) where
  module _ (is : is_that (initial_of claim ops) v ≡ true) where
    pub initial_is : initial_of claim ops ≡ Some v
    initial_is = that_is (initial_of claim ops) v is

    pub initial_free : HasNoWrite ops v
    initial_free = initial_not_written claim ops (apart.kept.values apart.atomic) v initial_is

    pub zone_from_start : zone_of v ops v ≡ zone_of (start_of claim ops) ops v
    zone_from_start = ap (λ (i : Option Value). zone_of (or_fresh ops i) ops v) (sym initial_is)

    pub initial_among : Contains (values_from (initial_of claim ops) ops) v
    initial_among = subst (λ (i : Option Value). Contains (values_from i ops) v) (sym initial_is) (here v (map (λ w. value_of w.act) (writes ops)))

  pub zone_written : (found : Option Zone) → IsZoneAt ops v found → IfSome found (λ zone. zone ≡ zone_of (start_of claim ops) ops v)
  zone_written None is = tt
  zone_written (Some zone) is =
      let (w, at) = is.some refl in
      is.zone ∙ sym (written_zone_is (start_of claim ops) ops v (λ e. no_write_at ops (start_of claim ops) (start_not_written claim ops (apart.kept.values apart.atomic)) w (record { present = at.present; write = at.write; same = at.same ∙ e })))

  pub found_from : is_that (initial_of claim ops) v ≡ false → (found : Option Zone) → IsZoneAt ops v found → IsSome found ↔ Contains (values_from (initial_of claim ops) ops) v
  found_from other found is = by_initial (initial_of claim ops) other
    where
      written : IsSome found ↔ HasWrite ops v
      written = found_where_written ops v found is

      by_initial : (i : Option Value) → is_that i v ≡ false → IsSome found ↔ Contains (values_from i ops) v
      by_initial None other = ((λ some. carried ops v (written.0 some)), λ h. written.1 (has_write ops v h))
      by_initial (Some u) other = ((λ some. there u (map (λ w. value_of w.act) (writes ops)) v (carried ops v (written.0 some))), λ h. written.1 (by_place (contains_cases u (map (λ w. value_of w.act) (writes ops)) v h)))
        where
          by_place : (u ≡ v) ⊎ Contains (map (λ w. value_of w.act) (writes ops)) v → HasWrite ops v
          by_place (inl e) = absurd (both_ways (same_value u v) other ((Decides-same_value u v).1 e))
          by_place (inr k) = has_write ops v k

-- the value of each zone of a first conflict is as `MayStart` asks
module _ (claim : ClaimModel) (ops : List Op) (apart : AreManyWriters claim ops) (first second : Zone) (h : HasFirstConflictFrom (initial_of claim ops) ops first second) where
  may : (z : Zone) → Contains h.zones z → MayStart (initial_of claim ops) (start_of claim ops) z.value
  may z k = by_initial (initial_of claim ops) refl h.zones h.each_once k
    where
      by_initial : (i : Option Value) → initial_of claim ops ≡ i → (zones : List Zone) → IsPermutation (zones_from (initial_of claim ops) ops) zones → Contains zones z → MayStart (initial_of claim ops) (start_of claim ops) z.value
      by_initial None e zones once k =
          let (w, at) = conflict_written ops z zones (subst (λ (o : Option Value). IsPermutation (zones_from o ops) zones) e once) k in
          subst (λ (o : Option Value). MayStart o (start_of claim ops) z.value) (sym e)
          (λ f. no_write_at ops (start_of claim ops) (start_not_written claim ops (apart.kept.values apart.atomic)) w (record { present = at.present; write = at.write; same = at.same ∙ f }))
      by_initial (Some v) e zones once k = subst (λ (o : Option Value). MayStart o (start_of claim ops) z.value) (sym e) (ap (or_fresh ops) e)

  pub first_may : MayStart (initial_of claim ops) (start_of claim ops) first.value
  first_may = may first (subst (λ (zones : List Zone). Contains zones first) (sym h.conflict.parts) (Contains-append_left h.conflict.earlier (second ∷ h.conflict.later) first h.conflict.farthest.present))

  pub second_may : MayStart (initial_of claim ops) (start_of claim ops) second.value
  second_may = may second (subst (λ (zones : List Zone). Contains zones second) (sym h.conflict.parts) (Contains-append_right h.conflict.earlier (second ∷ h.conflict.later) second (here second h.conflict.later)))
