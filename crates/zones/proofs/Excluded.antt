-- What no arrangement allows: an unwritten read, an early read, a crossing.
use Rattle.std.proofs.Common.{◌≡◌, ◌≢◌, ◌⊎◌, inl, inr, true, false, List, Option, Some, None, refl, sym, ap, ◌∙◌}
use Rattle.std.specs.Prelude.{All, Contains, map, slice_index_or}
use Rattle.std.specs.List.{AllPairs}
use Rattle.std.proofs.lemmas.Bool.{false_from_ne_true}
use Rattle.std.proofs.lemmas.List.Elements.{All-contains, All-map, filter_passes}
use Rattle.std.proofs.lemmas.List.Kept.{AllPairs-cons, AllPairs-filter}
use Rattle.std.proofs.lemmas.List.Sorted.{IsPermutation-sym, Contains-permutation}
use Rattle.std.proofs.lemmas.Map.Keys.{IsDistinct-from_apart, IsDistinct-IsPermutation}
use Rattle.intervals.specs.declared.operation.Op.{Op}
use Rattle.intervals.specs.declared.operation.Value.{Value}
use Rattle.intervals.specs.Terms.{ClaimModel}
use Rattle.intervals.specs.Operation.{Precedes, IsWrite, is_write, value_of, judged, writes}
use Rattle.intervals.specs.Kind.{Arranges, IsArranged}
use Rattle.intervals.specs.Standing.{HasDistinctMoments, HasDistinctValues}
use Rattle.zone_tree.specs.Zone.{Conflicts, HasOrderedEdges}
use Rattle.zones.specs.Cluster.{zone_of, written_values, zones_of}
use Rattle.zones.specs.Fault.{IsUnwritten, IsEarly, IsFaultless}
use Rattle.zones.specs.Crossing.{IsCrossing}
use Rattle.zones.proofs.Judged.{is_judged, judged_read, judged_write}
use Rattle.zones.proofs.Members.{kept, kept_present, all_from, pairs_mapped}
use Rattle.zones.proofs.Nearest.{clash, clash-flips, Decides-clash, StandsBefore, IsSound, NoneBefore, value_from, present_first, no_return, one_first, write_first}
use Rattle.zones.proofs.Cluster.{Cross, crossing_of, edges_in_order, left_edges_apart}

-- the values that have a write are different
pub values_apart : (initial : Value) (ops : List Op) → HasDistinctValues initial ops → AllPairs (λ u v. u ≢ v) (written_values initial ops)
values_apart initial ops values =
    AllPairs-cons (λ u v. u ≢ v) initial (map (λ w. value_of w.act) (writes ops))
    (All-map (λ v. initial ≢ v) (λ w. value_of w.act) (writes ops)
    (all_from (λ w. initial ≢ value_of w.act) (writes ops) (λ w h e.
    let k = kept_present is_write ops w h in
    All-contains (λ w. IsWrite w → value_of w.act ≢ initial) ops w values.new k.0 k.1 (sym e))))
    (pairs_mapped (λ w. value_of w.act) IsWrite (λ v w. IsWrite v → IsWrite w → value_of v.act ≢ value_of w.act) (λ u v. u ≢ v)
    (λ x y p q n. n p q) (writes ops) (filter_passes is_write ops)
    (AllPairs-filter (λ v w. IsWrite v → IsWrite w → value_of v.act ≢ value_of w.act) is_write ops values.apart))

module _ (claim : ClaimModel) (ops : List Op) where
  module _ (order : List Op) (arranges : Arranges claim ops order) where
    in_order : (x : Op) → Contains (judged ops) x → Contains order x
    in_order x h = Contains-permutation (judged ops) order x arranges.each_once h

    from_order : (x : Op) → Contains order x → Contains ops x
    from_order x h = (kept_present is_judged ops x (Contains-permutation order (judged ops) x (IsPermutation-sym (judged ops) order arranges.each_once) h)).0

    not_unwritten : (r : Op) → Contains ops r → ¬ IsUnwritten claim.initial ops r
    not_unwritten r h u = by_value (value_from claim.initial order arranges.reads r (in_order r (kept is_judged ops r h (judged_read r u.read).0)))
      where
        by_value : (value_of r.act ≡ claim.initial) ⊎ ((w : Op) × Contains order w × IsWrite w × (value_of w.act ≡ value_of r.act)) → ⊥
        by_value (inl e) = u.not_initial e
        by_value (inr (w, k, t, e)) = All-contains (λ w. IsWrite w → value_of w.act ≢ value_of r.act) ops w u.not_written (from_order w k) t e

    module _ (values : HasDistinctValues claim.initial ops) where
      sound : IsSound claim.initial order
      sound = record {
        reads = arranges.reads;
        once = IsDistinct-IsPermutation clash clash-flips (judged ops) order arranges.each_once
            (IsDistinct-from_apart clash (judged ops) (λ i j d lt within.
            let x = slice_index_or (judged ops) i d in
            let y = slice_index_or (judged ops) j d in
            false_from_ne_true (clash x y) (λ t.
            let h = (Decides-clash x y).0 t in
            AllPairs-filter (λ v w. IsWrite v → IsWrite w → value_of v.act ≢ value_of w.act) is_judged ops values.apart i j d lt within h.0 h.1 h.2)));
        free = λ w h t. All-contains (λ w. IsWrite w → value_of w.act ≢ claim.initial) ops w values.new (from_order w h) t;
      }

      not_early : (r w : Op) → Contains ops r → Contains ops w → ¬ IsEarly r w
      not_early r w h k e =
          write_first claim.initial order r w sound
          (λ f. All-contains (λ w. IsWrite w → value_of w.act ≢ claim.initial) ops w values.new k e.write (e.one_value ∙ f))
          (judged_read r e.read).1 e.write e.one_value
          (present_first order r w arranges.keeps
          (in_order r (kept is_judged ops r h (judged_read r e.read).0))
          (in_order w (kept is_judged ops w k (judged_write w e.write)))
          (λ f. let x : true ≡ false = sym e.write ∙ (sym (ap is_write f) ∙ (judged_read r e.read).1) in cc)
          e.ends_before)

      present : (a b : Op) → Contains (judged ops) a → Contains (judged ops) b → value_of a.act ≢ value_of b.act → Precedes a b → StandsBefore order a b
      present a b h k n p = present_first order a b arranges.keeps (in_order a h) (in_order b k) (λ e. n (ap (λ (o : Op). value_of o.act) e)) p

      not_crossing : (a : Option Op) (b : Op) (c : Option Op) (d : Op) → ¬ IsCrossing claim.initial ops a b c d
      not_crossing None b None d x = x.apart (sym x.other_value ∙ x.one_value)
      not_crossing None b (Some c) d x =
          let n : value_of c.act ≢ value_of d.act = λ e. x.apart (sym x.other_value ∙ e) in
          no_return claim.initial order c d sound (λ e. n (e ∙ x.one_value)) (sym x.one_value) (present c d x.c_present x.d_present n x.c_before_d)
      not_crossing (Some a) b None d x =
          let n : value_of a.act ≢ value_of b.act = λ e. x.apart (sym e ∙ x.one_value) in
          no_return claim.initial order a b sound (λ e. n (e ∙ x.other_value)) (sym x.other_value) (present a b x.a_present x.b_present n x.a_before_b)
      not_crossing (Some a) b (Some c) d x = by_cases (one_first claim.initial order (value_of d.act) (value_of b.act) sound (λ e. x.apart (sym e)))
        where
          by_cases : NoneBefore order (value_of d.act) (value_of b.act) ⊎ NoneBefore order (value_of b.act) (value_of d.act) → ⊥
          by_cases (inl none) = none a b x.one_value refl (present a b x.a_present x.b_present (λ e. x.apart (sym e ∙ x.one_value)) x.a_before_b)
          by_cases (inr none) = none c d x.other_value refl (present c d x.c_present x.d_present (λ e. x.apart (sym x.other_value ∙ e)) x.c_before_d)

  pub unwritten_excludes : (r : Op) → Contains ops r → IsUnwritten claim.initial ops r → ¬ IsArranged claim ops
  unwritten_excludes r h u (order, arranges) = not_unwritten order arranges r h u

  pub early_excludes : (r w : Op) → HasDistinctValues claim.initial ops → Contains ops r → Contains ops w → IsEarly r w → ¬ IsArranged claim ops
  early_excludes r w values h k e (order, arranges) = not_early order arranges values r w h k e

  pub crossing_excludes : (a : Option Op) (b : Op) (c : Option Op) (d : Op) → HasDistinctValues claim.initial ops → IsCrossing claim.initial ops a b c d → ¬ IsArranged claim ops
  crossing_excludes a b c d values x (order, arranges) = not_crossing order arranges values a b c d x

  none_crosses : (u v : Value) → HasDistinctValues claim.initial ops → IsArranged claim ops → ¬ Cross claim.initial ops u v
  none_crosses u v values atomic (a, b, c, d, x, e, f) = crossing_excludes a b c d values x atomic

  -- a register that has an arrangement is faultless
  pub arranged_is_faultless : HasDistinctValues claim.initial ops → IsArranged claim ops → IsFaultless claim.initial ops
  arranged_is_faultless values atomic = record {
    written = all_from (λ r. ¬ IsUnwritten claim.initial ops r) ops (λ r h u. unwritten_excludes r h u atomic);
    timely = all_from (λ r. All (λ w. ¬ IsEarly r w) ops) ops (λ r h. all_from (λ w. ¬ IsEarly r w) ops (λ w k e. early_excludes r w values h k e atomic));
    clean = pairs_mapped (zone_of claim.initial ops) (λ v. Unit {0}) (λ u v. u ≢ v) (λ a b. ¬ Conflicts a b)
        (λ u v p q n c. none_crosses u v values atomic (crossing_of claim.initial ops u v n c))
        (written_values claim.initial ops) (λ k d lt. tt) (values_apart claim.initial ops values);
  }

-- the zones have their edges in order, and different left edges
pub zones_ordered : (initial : Value) (ops : List Op) → All HasOrderedEdges (zones_of initial ops)
zones_ordered initial ops = All-map HasOrderedEdges (zone_of initial ops) (written_values initial ops) (λ k d lt. edges_in_order initial ops (slice_index_or (written_values initial ops) k d))

pub zones_apart : (initial : Value) (ops : List Op) → HasDistinctMoments ops → HasDistinctValues initial ops → AllPairs (λ a b. a.left ≢ b.left) (zones_of initial ops)
zones_apart initial ops moments values = left_edges_apart initial ops moments (values_apart initial ops values)
