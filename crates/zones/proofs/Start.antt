-- What a register begins with, and that it is faultless from there exactly where it has an arrangement.
use Rattle.std.proofs.Common.{◌≡◌, ◌≢◌, ◌↔◌, ◌⊎◌, inl, inr, Bool, true, false, List, ◌∷◌, Option, Some, None, refl, sym, ap, subst, ◌∙◌, cond}
use Rattle.std.specs.Prelude.{Contains, IsPermutation, is_some, option_map}
use Rattle.std.proofs.lemmas.List.Elements.{All-contains, All-cons}
use Rattle.std.proofs.lemmas.List.Kept.{AllPairs-cons}
use Rattle.std.proofs.lemmas.List.Sorted.{IsPermutation-cons, IsPermutation-sym, Contains-permutation}
use Rattle.intervals.specs.declared.operation.Op.{Op}
use Rattle.intervals.specs.declared.operation.Value.{Value}
use Rattle.intervals.specs.declared.edit.Edit.{Edit}
use Rattle.intervals.specs.declared.claim.Kind.{Kind}
use Rattle.intervals.specs.declared.claim.Kind.TheVariants.{Atomic}
use Rattle.intervals.specs.Kind.{HasNoWrite, IsArranged, IsAtomic, IsAtomicWhere, Keeps, Holds}
use Rattle.intervals.specs.Operation.{IsWrite, value_of, judged}
use Rattle.intervals.specs.Refusal.{standing}
use Rattle.intervals.specs.Standing.{HasDistinctMoments, HasEndsAfterBeginnings, HasDistinctValues, HasOwnValues, IsInitial}
use Rattle.intervals.specs.Terms.{ClaimModel, unedited}
use Rattle.intervals.proofs.Standing.{standing_apart}
use Rattle.zone_tree.specs.declared.edge.Edge.{Edge}
use Rattle.zone_tree.specs.declared.edge.Edge.TheVariants.{Before, At}
use Rattle.zone_tree.specs.declared.zone.Zone.{Zone}
use Rattle.zone_tree.specs.Conflict.{IsClean}
use Rattle.zone_tree.specs.Edge.{ComesBefore}
use Rattle.zone_tree.specs.Zone.{Conflicts, IsForward, least_end}
use Rattle.zones.specs.AtFirst.{IsSplit, IsWriteless, first_split, first_writeless, first_writeless_but, unused_value, initial_of, or_fresh, sole_of, start_of, unwritten_of, with_other}
use Rattle.zones.specs.Cluster.{cluster_of, greatest_begin_of, values_from, written_values, written_zone, zone_between, zone_of, zones_from, zones_of}
use Rattle.zones.specs.Crossing.{HasFirstConflict, HasFirstConflictFrom, IsCrossing, IsFirstCrossing, IsFirstCrossingFrom, value_at}
use Rattle.zones.specs.Fault.{IsEarly, IsFaultless, IsFirstOf, IsUnwritten, first_early, first_unwritten}
use Rattle.zones.specs.Members.{HasWrite}
use Rattle.zones.proofs.Cluster.{greatest_of_one, least_initial, left_initial, member_of}
use Rattle.zones.proofs.EdgeOrder.{before_all}
use Rattle.zones.proofs.Excluded.{crossing_excludes, early_excludes, unwritten_excludes}
use Rattle.zones.proofs.Existence.{faultless_exactly}
use Rattle.zones.proofs.FirstReads.{early_none, faultless_without_firsts, same_pair}
use Rattle.zones.proofs.Fresh.{fresh_is_new, fresh_not_written}
use Rattle.zones.proofs.InTree.{begins_later, carried, has_write, zones_following}
use Rattle.zones.proofs.Judged.{is_judged}
use Rattle.zones.proofs.Members.{all_from, kept_present, pairs_tail, there, value_cases}
use Rattle.zones.proofs.Edited.{from_map}
use Rattle.zones.proofs.Writeless.{IsOfAnother, other_first, other_none, writeless_first, writeless_none}
use Rattle.zones.proofs.Written.{written_cases, written_value}

-- the zone of a value that no operation has
abbrev fresh_zone : List Op → Zone
fresh_zone ops = record { left = Before; right = Before; forward = false; value = unused_value ops }

fresh_zone_is : (ops : List Op) → zone_of (unused_value ops) ops (unused_value ops) ≡ fresh_zone ops
fresh_zone_is ops =
    let i = unused_value ops in
    ap (λ (m : Edge). zone_between m (greatest_begin_of i ops i) i) (least_initial i ops)
    ∙ ap (λ (m : Edge). zone_between Before m i) (by_cases (greatest_of_one i ops i))
  where
    by_cases : (greatest_begin_of (unused_value ops) ops (unused_value ops) ≡ Before) ⊎ ((op : Op) × Contains (cluster_of ops (unused_value ops)) op × (At op.begin ≡ greatest_begin_of (unused_value ops) ops (unused_value ops))) → greatest_begin_of (unused_value ops) ops (unused_value ops) ≡ Before
    by_cases (inl e) = e
    by_cases (inr (op, h, e)) =
        let (k, same) = member_of (unused_value ops) ops (unused_value ops) op h in
        absurd (fresh_is_new ops op (kept_present is_judged ops op k).0 same)

-- the zone of a value that no operation has conflicts with none, and is not forward
fresh_clear : (ops : List Op) (z : Zone) → ¬ Conflicts (zone_of (unused_value ops) ops (unused_value ops)) z
fresh_clear ops z c =
    let d : Conflicts (fresh_zone ops) z = subst (λ (x : Zone). Conflicts x z) (fresh_zone_is ops) c in
    before_all (least_end z) d.1

fresh_backward : (ops : List Op) → ¬ IsForward (zone_of (unused_value ops) ops (unused_value ops))
fresh_backward ops f = let d : IsForward (fresh_zone ops) = subst IsForward (fresh_zone_is ops) f in absurd (cc)

-- with the zone of a value that no operation has the zones are clean exactly where they are without it
clean_after : (initial : Value) (ops : List Op) → HasNoWrite ops initial → IsClean (zones_of initial ops) → IsClean (zones_from None ops)
clean_after initial ops none clean =
    pairs_tail (λ a b. ¬ Conflicts a b) (zone_of initial ops initial) (zones_from None ops) (subst IsClean (zones_following initial ops none) clean)

clean_with_fresh : (ops : List Op) → IsClean (zones_from None ops) → IsClean (zones_of (unused_value ops) ops)
clean_with_fresh ops clean =
    subst IsClean (sym (zones_following (unused_value ops) ops (fresh_not_written ops)))
    (AllPairs-cons (λ a b. ¬ Conflicts a b) (zone_of (unused_value ops) ops (unused_value ops)) (zones_from None ops) (all_from (λ z. ¬ Conflicts (zone_of (unused_value ops) ops (unused_value ops)) z) (zones_from None ops) (λ z h. fresh_clear ops z)) clean)

pub clean_from : (initial : Option Value) (ops : List Op) → IsClean (zones_of (or_fresh ops initial) ops) ↔ IsClean (zones_from initial ops)
clean_from None ops = (clean_after (unused_value ops) ops (fresh_not_written ops), clean_with_fresh ops)
clean_from (Some initial) ops = ((λ c. c), λ c. c)

-- with the zone of a value that no operation has the first conflict is the one without it
conflict_with_fresh : (ops : List Op) (first second : Zone) → HasFirstConflictFrom None ops first second → HasFirstConflict (unused_value ops) ops first second
conflict_with_fresh ops first second h = record {
  zones = front ∷ h.zones;
  each_once = subst (λ (zones : List Zone). IsPermutation zones (front ∷ h.zones)) (sym (zones_following (unused_value ops) ops (fresh_not_written ops))) (IsPermutation-cons front (zones_from None ops) h.zones h.each_once);
  by_left = AllPairs-cons (λ a b. ComesBefore a.left b.left) front h.zones (all_from (λ z. ComesBefore front.left z.left) h.zones later) h.by_left;
  conflict = record {
    earlier = front ∷ h.conflict.earlier;
    later = h.conflict.later;
    parts = ap (λ (zones : List Zone). front ∷ zones) h.conflict.parts;
    clear = AllPairs-cons (λ a b. IsForward a → ¬ Conflicts a b) front h.conflict.earlier (all_from (λ z. IsForward front → ¬ Conflicts front z) h.conflict.earlier (λ z k f. fresh_clear ops z)) h.conflict.clear;
    farthest = record {
      present = there front h.conflict.earlier first h.conflict.farthest.present;
      forward = h.conflict.farthest.forward;
      farthest = All-cons (λ z. IsForward z → ¬ ComesBefore first.right z.right) front h.conflict.earlier (λ f. absurd (fresh_backward ops f)) h.conflict.farthest.farthest;
    };
    conflict = h.conflict.conflict;
  };
}
  where
    front : Zone
    front = zone_of (unused_value ops) ops (unused_value ops)

    later : (z : Zone) → Contains h.zones z → ComesBefore front.left z.left
    later z k =
        let (v, has, e) = from_map (written_zone ops) (values_from None ops) z (Contains-permutation h.zones (zones_from None ops) z (IsPermutation-sym (zones_from None ops) h.zones h.each_once) k) in
        subst (λ (a : Edge). ComesBefore a z.left) (sym (left_initial (unused_value ops) ops)) (subst (λ (x : Zone). ComesBefore Before x.left) e (begins_later ops v (has_write ops v has)))

pub conflict_from : (initial : Option Value) (ops : List Op) (first second : Zone) → HasFirstConflictFrom initial ops first second → HasFirstConflict (or_fresh ops initial) ops first second
conflict_from None ops first second h = conflict_with_fresh ops first second h
conflict_from (Some initial) ops first second h = h

-- the value of each zone is written, where there is no initial value
pub conflict_written : (ops : List Op) (z : Zone) (zones : List Zone) → IsPermutation (zones_from None ops) zones → Contains zones z → HasWrite ops z.value
conflict_written ops z zones once h =
    let (v, has, e) = from_map (written_zone ops) (values_from None ops) z (Contains-permutation zones (zones_from None ops) z (IsPermutation-sym (zones_from None ops) zones once) h) in
    subst (HasWrite ops) (sym (written_value ops v) ∙ ap (λ (x : Zone). x.value) e) (has_write ops v has)

module _ (claim : ClaimModel) (ops : List Op) where
  -- the three cases of writeless reads: none, all of one value, or two of different values
  abbrev NoneReads : Type 0
  NoneReads = first_writeless claim ops ≡ None

  abbrev OneValue : Op → Type 0
  OneValue a = (first_writeless claim ops ≡ Some a) × (first_writeless_but (value_of a.act) claim ops ≡ None)

  abbrev TwoValues : Op → Op → Type 0
  TwoValues a b = (first_writeless claim ops ≡ Some a) × (first_writeless_but (value_of a.act) claim ops ≡ Some b)

  abbrev Cases : Type 0
  Cases = NoneReads ⊎ (((a : Op) × OneValue a) ⊎ ((a : Op) × (b : Op) × TwoValues a b))

  cases : Cases
  cases = by_first (first_writeless claim ops) refl
    where
      by_other : (a : Op) → first_writeless claim ops ≡ Some a → (found : Option Op) → first_writeless_but (value_of a.act) claim ops ≡ found → Cases
      by_other a e None f = inr (inl (a, (e, f)))
      by_other a e (Some b) f = inr (inr (a, b, (e, f)))

      by_first : (found : Option Op) → first_writeless claim ops ≡ found → Cases
      by_first None e = inl e
      by_first (Some a) e = by_other a e (first_writeless_but (value_of a.act) claim ops) refl

  abbrev sole : Option Value
  sole = sole_of claim ops (first_writeless claim ops)

  abbrev pair : Option (Op × Op)
  pair = with_other claim ops (first_writeless claim ops)

  none_sole : NoneReads → sole ≡ None
  none_sole e = ap (sole_of claim ops) e

  none_pair : NoneReads → pair ≡ None
  none_pair e = ap (with_other claim ops) e

  one_sole : (a : Op) → OneValue a → sole ≡ Some (value_of a.act)
  one_sole a (e, f) = ap (sole_of claim ops) e ∙ ap (λ (found : Option Op). cond (is_some found) None (Some (value_of a.act))) f

  one_pair : (a : Op) → OneValue a → pair ≡ None
  one_pair a (e, f) = ap (with_other claim ops) e ∙ ap (option_map (λ (b : Op). (a, b))) f

  two_sole : (a b : Op) → TwoValues a b → sole ≡ None
  two_sole a b (e, f) = ap (sole_of claim ops) e ∙ ap (λ (found : Option Op). cond (is_some found) None (Some (value_of a.act))) f

  two_pair : (a b : Op) → TwoValues a b → pair ≡ Some (a, b)
  two_pair a b (e, f) = ap (with_other claim ops) e ∙ ap (option_map (λ (b : Op). (a, b))) f

  none_writeless : NoneReads → (r : Op) → Contains ops r → ¬ IsWriteless claim ops r
  none_writeless e r h = All-contains (λ r. ¬ IsWriteless claim ops r) ops r ((writeless_none claim ops).0 e) h

  -- where they have one value, all writeless reads are of it
  one_value : (a : Op) → OneValue a → (r : Op) → Contains ops r → IsWriteless claim ops r → value_of r.act ≡ value_of a.act
  one_value a (e, f) r h u = by_cases (value_cases (value_of r.act) (value_of a.act))
    where
      by_cases : (value_of r.act ≡ value_of a.act) ⊎ (value_of r.act ≢ value_of a.act) → value_of r.act ≡ value_of a.act
      by_cases (inl same) = same
      by_cases (inr n) = absurd (All-contains (λ r. ¬ IsOfAnother claim ops (value_of a.act) r) ops r ((other_none claim ops (value_of a.act)).0 f) h (u, n))

  -- where the initial value is known
  module _ (known : claim.known ≡ true) where
    pub known_initial : initial_of claim ops ≡ Some claim.initial
    known_initial = ap (λ (t : Bool). cond t (Some claim.initial) sole) known

    pub known_start : start_of claim ops ≡ claim.initial
    known_start = ap (or_fresh ops) known_initial

    known_split : first_split claim ops ≡ None
    known_split = ap (λ (t : Bool). cond t None pair) known

    known_unwritten : unwritten_of claim ops ≡ first_unwritten claim.initial ops
    known_unwritten = ap (λ (t : Bool). cond t (first_unwritten claim.initial ops) None) known

    known_atomic : IsAtomic claim ops ≡ IsArranged claim ops
    known_atomic = ap (λ (t : Bool). IsAtomicWhere t claim ops) known

  -- where nobody knows it
  module _ (unknown : claim.known ≡ false) where
    unknown_initial : initial_of claim ops ≡ sole
    unknown_initial = ap (λ (t : Bool). cond t (Some claim.initial) sole) unknown

    unknown_split : first_split claim ops ≡ pair
    unknown_split = ap (λ (t : Bool). cond t None pair) unknown

    unknown_unwritten : unwritten_of claim ops ≡ None
    unknown_unwritten = ap (λ (t : Bool). cond t (first_unwritten claim.initial ops) None) unknown

    not_known : (v : Value) → ¬ IsInitial claim v
    not_known v i = let both : true ≡ false = sym i.0 ∙ unknown in cc

  abbrev pub Without : Type 0
  Without = (unwritten_of claim ops ≡ None) × (first_split claim ops ≡ None) × (first_early ops ≡ None) × IsClean (zones_from (initial_of claim ops) ops)

  known_without : claim.known ≡ true → IsFaultless (start_of claim ops) ops ↔ Without
  known_without known =
      let law = faultless_without_firsts claim.initial ops in (
        (λ f.
            let (unwritten, early, clean) = law.0 (subst (λ (v : Value). IsFaultless v ops) (known_start known) f) in
            (known_unwritten known ∙ unwritten, known_split known, early, subst (λ (i : Option Value). IsClean (zones_from i ops)) (sym (known_initial known)) clean)),
        (λ (unwritten, split, early, clean).
            subst (λ (v : Value). IsFaultless v ops) (sym (known_start known))
            (law.1 (sym (known_unwritten known) ∙ unwritten, early, subst (λ (i : Option Value). IsClean (zones_from i ops)) (known_initial known) clean))),
      )

  -- a read whose value is neither this one nor written is writeless, and the other way round
  unwritten_is : claim.known ≡ false → (v : Value) (r : Op) → IsUnwritten v ops r → IsWriteless claim ops r
  unwritten_is unknown v r u = record { read = u.read; not_initial = not_known unknown (value_of r.act); not_written = u.not_written }

  writeless_is : (v : Value) (r : Op) → value_of r.act ≢ v → IsWriteless claim ops r → IsUnwritten v ops r
  writeless_is v r n u = record { read = u.read; not_initial = n; not_written = u.not_written }

  clean_at : (i : Option Value) → initial_of claim ops ≡ i → IsClean (zones_of (or_fresh ops i) ops) → IsClean (zones_from (initial_of claim ops) ops)
  clean_at i e clean = subst (λ (o : Option Value). IsClean (zones_from o ops)) (sym e) ((clean_from i ops).0 clean)

  clean_back : (i : Option Value) → initial_of claim ops ≡ i → IsClean (zones_from (initial_of claim ops) ops) → IsClean (zones_of (or_fresh ops i) ops)
  clean_back i e clean = (clean_from i ops).1 (subst (λ (o : Option Value). IsClean (zones_from o ops)) e clean)

  -- where from that value no read is unwritten
  from_value : (i : Option Value) → initial_of claim ops ≡ i → ((r : Op) → Contains ops r → ¬ IsUnwritten (or_fresh ops i) ops r) → (first_early ops ≡ None) → IsClean (zones_from (initial_of claim ops) ops) → IsFaultless (start_of claim ops) ops
  from_value i e written early clean =
      subst (λ (o : Option Value). IsFaultless (or_fresh ops o) ops) (sym e) (record {
        written = all_from (λ r. ¬ IsUnwritten (or_fresh ops i) ops r) ops written;
        timely = (early_none ops).0 early;
        clean = clean_back i e clean;
      })

  at_value : (i : Option Value) → initial_of claim ops ≡ i → IsFaultless (start_of claim ops) ops → IsFaultless (or_fresh ops i) ops
  at_value i e f = subst (λ (o : Option Value). IsFaultless (or_fresh ops o) ops) e f

  without_at : claim.known ≡ false → (i : Option Value) → initial_of claim ops ≡ i → pair ≡ None → IsFaultless (or_fresh ops i) ops → Without
  without_at unknown i e none f = (unknown_unwritten unknown, unknown_split unknown ∙ none, (early_none ops).1 f.timely, clean_at i e f.clean)

  unknown_without : claim.known ≡ false → IsFaultless (start_of claim ops) ops ↔ Without
  unknown_without unknown = by_cases cases
    where
      from_none : NoneReads → initial_of claim ops ≡ None
      from_none e = unknown_initial unknown ∙ none_sole e

      from_one : (a : Op) → OneValue a → initial_of claim ops ≡ Some (value_of a.act)
      from_one a is = unknown_initial unknown ∙ one_sole a is

      two_faulty : (a b : Op) → TwoValues a b → ¬ IsFaultless (start_of claim ops) ops
      two_faulty a b is f =
          let first = writeless_first claim ops a is.0 in
          All-contains (λ r. ¬ IsUnwritten (unused_value ops) ops r) ops a (at_value None (unknown_initial unknown ∙ two_sole a b is) f).written first.present
          (writeless_is (unused_value ops) a (fresh_is_new ops a first.present) first.holds)

      by_cases : Cases → IsFaultless (start_of claim ops) ops ↔ Without
      by_cases (inl e) = (
        (λ f. without_at unknown None (from_none e) (none_pair e) (at_value None (from_none e) f)),
        (λ (unwritten, split, early, clean). from_value None (from_none e) (λ r h u. none_writeless e r h (unwritten_is unknown (unused_value ops) r u)) early clean),
      )
      by_cases (inr (inl (a, is))) = (
        (λ f. without_at unknown (Some (value_of a.act)) (from_one a is) (one_pair a is) (at_value (Some (value_of a.act)) (from_one a is) f)),
        (λ (unwritten, split, early, clean).
            from_value (Some (value_of a.act)) (from_one a is) (λ r h u. u.not_initial (one_value a is r h (unwritten_is unknown (value_of a.act) r u))) early clean),
      )
      by_cases (inr (inr (a, b, is))) = (
        (λ f. absurd (two_faulty a b is f)),
        (λ (unwritten, split, early, clean). absurd (let some : Some (a, b) ≡ None = sym (two_pair a b is) ∙ (sym (unknown_split unknown) ∙ split) in cc)),
      )

  -- a register is faultless exactly where it has no first fault
  pub faultless_without_faults : IsFaultless (start_of claim ops) ops ↔ Without
  faultless_without_faults = by_known claim.known refl
    where
      by_known : (t : Bool) → claim.known ≡ t → IsFaultless (start_of claim ops) ops ↔ Without
      by_known true e = known_without e
      by_known false e = unknown_without e

  -- no write has the initial value
  pub initial_not_written : HasOwnValues claim ops → (v : Value) → initial_of claim ops ≡ Some v → HasNoWrite ops v
  initial_not_written values v e = by_known claim.known refl
    where
      by_cases : claim.known ≡ false → Cases → HasNoWrite ops v
      by_cases unknown (inl n) = absurd (let some : Some v ≡ None = sym e ∙ (unknown_initial unknown ∙ none_sole n) in cc)
      by_cases unknown (inr (inl (a, is))) =
          let same : value_of a.act ≡ v = let some : Some (value_of a.act) ≡ Some v = sym (unknown_initial unknown ∙ one_sole a is) ∙ e in cc in
          subst (HasNoWrite ops) same (writeless_first claim ops a is.0).holds.not_written
      by_cases unknown (inr (inr (a, b, is))) = absurd (let some : Some v ≡ None = sym e ∙ (unknown_initial unknown ∙ two_sole a b is) in cc)

      by_known : (t : Bool) → claim.known ≡ t → HasNoWrite ops v
      by_known true known =
          let same : claim.initial ≡ v = let some : Some claim.initial ≡ Some v = sym (known_initial known) ∙ e in cc in
          all_from (λ w. IsWrite w → value_of w.act ≢ v) ops (λ w h write f. All-contains (λ w. IsWrite w → ¬ IsInitial claim (value_of w.act)) ops w values.new h write (known, f ∙ sym same))
      by_known false unknown = by_cases unknown cases

  pub start_not_written : HasOwnValues claim ops → HasNoWrite ops (start_of claim ops)
  start_not_written values = by_initial (initial_of claim ops) refl
    where
      by_initial : (i : Option Value) → initial_of claim ops ≡ i → HasNoWrite ops (start_of claim ops)
      by_initial None e = subst (λ (o : Option Value). HasNoWrite ops (or_fresh ops o)) (sym e) (fresh_not_written ops)
      by_initial (Some v) e = subst (λ (o : Option Value). HasNoWrite ops (or_fresh ops o)) (sym e) (initial_not_written values v e)

  values_at : HasOwnValues claim ops → (v : Value) → HasNoWrite ops v → HasDistinctValues v ops
  values_at values v none = record { apart = values.apart; new = none }

  abbrev beginning : Value → ClaimModel
  beginning v = record claim { initial = v }

  -- with an arrangement from some value that no write carries, the register begins with that, or no read shows a value
  faultless_from : claim.known ≡ false → (v : Value) → HasNoWrite ops v → IsFaultless v ops → IsFaultless (start_of claim ops) ops
  faultless_from unknown v none f = by_cases cases
    where
      is_v : (r : Op) → Contains ops r → IsWriteless claim ops r → value_of r.act ≡ v
      is_v r h u = by_value (value_cases (value_of r.act) v)
        where
          by_value : (value_of r.act ≡ v) ⊎ (value_of r.act ≢ v) → value_of r.act ≡ v
          by_value (inl e) = e
          by_value (inr n) = absurd (All-contains (λ r. ¬ IsUnwritten v ops r) ops r f.written h (writeless_is v r n u))

      by_cases : Cases → IsFaultless (start_of claim ops) ops
      by_cases (inl e) =
          let nothing : initial_of claim ops ≡ None = unknown_initial unknown ∙ none_sole e in
          faultless_without_faults.1 (
            unknown_unwritten unknown,
            unknown_split unknown ∙ none_pair e,
            (early_none ops).1 f.timely,
            subst (λ (o : Option Value). IsClean (zones_from o ops)) (sym nothing) (clean_after v ops none f.clean),
          )
      by_cases (inr (inl (a, is))) =
          let first = writeless_first claim ops a is.0 in
          subst (λ (o : Option Value). IsFaultless (or_fresh ops o) ops) (sym (unknown_initial unknown ∙ one_sole a is))
          (subst (λ (u : Value). IsFaultless u ops) (sym (is_v a first.present first.holds)) f)
      by_cases (inr (inr (a, b, is))) =
          let first = writeless_first claim ops a is.0 in
          let other = other_first claim ops (value_of a.act) b is.1 in
          absurd (other.holds.1 (is_v b other.present other.holds.0 ∙ sym (is_v a first.present first.holds)))

  -- a register is faultless exactly where there is an arrangement
  pub faultless_is_atomic : HasDistinctMoments ops → HasEndsAfterBeginnings ops → HasOwnValues claim ops → IsFaultless (start_of claim ops) ops ↔ IsAtomic claim ops
  faultless_is_atomic moments ends values = by_known claim.known refl
    where
      exactly : (v : Value) → HasNoWrite ops v → IsFaultless v ops ↔ IsArranged (beginning v) ops
      exactly v none = faultless_exactly (beginning v) ops moments ends (values_at values v none)

      by_known : (t : Bool) → claim.known ≡ t → IsFaultless (start_of claim ops) ops ↔ IsAtomicWhere claim.known claim ops
      by_known true known =
          let start = known_start known in
          let law = exactly claim.initial (subst (HasNoWrite ops) start (start_not_written values)) in
          subst (λ (t : Bool). IsFaultless (start_of claim ops) ops ↔ IsAtomicWhere t claim ops) (sym known) (
            (λ f. law.0 (subst (λ (v : Value). IsFaultless v ops) start f)),
            (λ arranged. subst (λ (v : Value). IsFaultless v ops) (sym start) (law.1 arranged)),
          )
      by_known false unknown =
          subst (λ (t : Bool). IsFaultless (start_of claim ops) ops ↔ IsAtomicWhere t claim ops) (sym unknown) (
            (λ f. (start_of claim ops, start_not_written values, (exactly (start_of claim ops) (start_not_written values)).0 f)),
            (λ (v, none, arranged). faultless_from unknown v none ((exactly v none).1 arranged)),
          )

  -- what excludes every arrangement: an unwritten read, a split, an early read, a crossing
  pub unwritten_excludes_all : claim.known ≡ true → (r : Op) → Contains ops r → IsUnwritten claim.initial ops r → ¬ IsAtomic claim ops
  unwritten_excludes_all known r h u atomic = unwritten_excludes claim ops r h u (subst (λ (t : Bool). IsAtomicWhere t claim ops) known atomic)

  -- an arrangement, and the value it begins with
  abbrev FromSome : Type 0
  FromSome = (v : Value) × HasNoWrite ops v × IsArranged (beginning v) ops

  arranged_from : HasOwnValues claim ops → IsAtomic claim ops → FromSome
  arranged_from values = by_known claim.known refl
    where
      by_known : (t : Bool) → claim.known ≡ t → IsAtomicWhere claim.known claim ops → FromSome
      by_known true known atomic =
          (claim.initial, subst (HasNoWrite ops) (known_start known) (start_not_written values), subst (λ (t : Bool). IsAtomicWhere t claim ops) known atomic)
      by_known false unknown atomic = subst (λ (t : Bool). IsAtomicWhere t claim ops) unknown atomic

  pub early_excludes_all : HasOwnValues claim ops → (r w : Op) → Contains ops r → Contains ops w → IsEarly r w → ¬ IsAtomic claim ops
  early_excludes_all values r w h k e atomic =
      let (v, none, arranged) = arranged_from values atomic in
      early_excludes (beginning v) ops r w (values_at values v none) h k e arranged

  -- a writeless read returns the value that every arrangement begins with
  begins_with : (v : Value) → IsArranged (beginning v) ops → (r : Op) → Contains ops r → IsWriteless claim ops r → value_of r.act ≡ v
  begins_with v arranged r h u = by_value (value_cases (value_of r.act) v)
    where
      by_value : (value_of r.act ≡ v) ⊎ (value_of r.act ≢ v) → value_of r.act ≡ v
      by_value (inl e) = e
      by_value (inr n) = absurd (unwritten_excludes (beginning v) ops r h (writeless_is v r n u) arranged)

  pub split_excludes_all : claim.known ≡ false → (a b : Op) → IsSplit claim ops a b → ¬ IsAtomic claim ops
  split_excludes_all unknown a b split atomic =
      let (v, none, arranged) = subst (λ (t : Bool). IsAtomicWhere t claim ops) unknown atomic in
      split.apart (begins_with v arranged b split.b_present split.other ∙ sym (begins_with v arranged a split.a_present split.one))

  -- four operations that cross, from the value that an arrangement begins with
  crossing_at : (v : Value) → IsArranged (beginning v) ops → (a : Option Op) (b : Op) (c : Option Op) (d : Op) → claim.known ≡ false → IsCrossing (start_of claim ops) ops a b c d → IsCrossing v ops a b c d
  crossing_at v arranged a b c d unknown x = record {
    a_present = x.a_present;
    b_present = x.b_present;
    c_present = x.c_present;
    d_present = x.d_present;
    one_value = same a d x.d_present x.one_value;
    other_value = same c b x.b_present x.other_value;
    apart = x.apart;
    a_before_b = x.a_before_b;
    c_before_d = x.c_before_d;
  }
    where
      present : (o : Op) → Contains (judged ops) o → Contains ops o
      present o h = (kept_present is_judged ops o h).0

      not_fresh : (o : Op) → Contains (judged ops) o → initial_of claim ops ≡ None → start_of claim ops ≢ value_of o.act
      not_fresh o h e f = fresh_is_new ops o (present o h) (sym f ∙ ap (or_fresh ops) e)

      by_cases : (o : Op) → Contains (judged ops) o → start_of claim ops ≡ value_of o.act → Cases → v ≡ value_of o.act
      by_cases o h e (inl n) = absurd (not_fresh o h (unknown_initial unknown ∙ none_sole n) e)
      by_cases o h e (inr (inl (r, is))) =
          let first = writeless_first claim ops r is.0 in
          sym (begins_with v arranged r first.present first.holds) ∙ (sym (ap (or_fresh ops) (unknown_initial unknown ∙ one_sole r is)) ∙ e)
      by_cases o h e (inr (inr (r, s, is))) = absurd (not_fresh o h (unknown_initial unknown ∙ two_sole r s is) e)

      same : (x : Option Op) (o : Op) → Contains (judged ops) o → value_at (start_of claim ops) x ≡ value_of o.act → value_at v x ≡ value_of o.act
      same None o h e = by_cases o h e cases
      same (Some y) o h e = e

  pub crossing_excludes_all : HasOwnValues claim ops → (a : Option Op) (b : Op) (c : Option Op) (d : Op) → IsCrossing (start_of claim ops) ops a b c d → ¬ IsAtomic claim ops
  crossing_excludes_all values a b c d x = by_known claim.known refl
    where
      by_known : (t : Bool) → claim.known ≡ t → IsAtomicWhere claim.known claim ops → ⊥
      by_known true known atomic =
          crossing_excludes claim ops a b c d (values_at values claim.initial (subst (HasNoWrite ops) (known_start known) (start_not_written values)))
          (subst (λ (v : Value). IsCrossing v ops a b c d) (known_start known) x) (subst (λ (t : Bool). IsAtomicWhere t claim ops) known atomic)
      by_known false unknown atomic =
          let (v, none, arranged) = subst (λ (t : Bool). IsAtomicWhere t claim ops) unknown atomic in
          crossing_excludes (beginning v) ops a b c d (values_at values v none) (crossing_at v arranged a b c d unknown x) arranged

  -- the first split
  pub split_first : (a b : Op) → first_split claim ops ≡ Some (a, b) → (claim.known ≡ false) × IsFirstOf (IsWriteless claim ops) ops a × IsFirstOf (IsOfAnother claim ops (value_of a.act)) ops b
  split_first a b e = by_known claim.known refl
    where
      by_cases : claim.known ≡ false → Cases → (claim.known ≡ false) × IsFirstOf (IsWriteless claim ops) ops a × IsFirstOf (IsOfAnother claim ops (value_of a.act)) ops b
      by_cases unknown (inl n) = absurd (let some : Some (a, b) ≡ None = sym e ∙ (unknown_split unknown ∙ none_pair n) in cc)
      by_cases unknown (inr (inl (r, is))) = absurd (let some : Some (a, b) ≡ None = sym e ∙ (unknown_split unknown ∙ one_pair r is) in cc)
      by_cases unknown (inr (inr (r, s, is))) =
          let some : ◌≡◌ {A = Option (Op × Op)} (Some (r, s)) (Some (a, b)) = sym (two_pair r s is) ∙ (sym (unknown_split unknown) ∙ e) in
          let (one, other) = same_pair r a s b some in (
            unknown,
            subst (IsFirstOf (IsWriteless claim ops) ops) one (writeless_first claim ops r is.0),
            subst (λ (o : Op). IsFirstOf (IsOfAnother claim ops (value_of o.act)) ops b) one (subst (IsFirstOf (IsOfAnother claim ops (value_of r.act)) ops) other (other_first claim ops (value_of r.act) s is.1)),
          )

      by_known : (t : Bool) → claim.known ≡ t → (claim.known ≡ false) × IsFirstOf (IsWriteless claim ops) ops a × IsFirstOf (IsOfAnother claim ops (value_of a.act)) ops b
      by_known true known = absurd (let some : Some (a, b) ≡ None = sym e ∙ known_split known in cc)
      by_known false unknown = by_cases unknown cases

  pub split_is : (a b : Op) → first_split claim ops ≡ Some (a, b) → IsSplit claim ops a b
  split_is a b e =
      let (unknown, first, other) = split_first a b e in
      record { a_present = first.present; b_present = other.present; one = first.holds; other = other.holds.0; apart = other.holds.1 }

  pub no_split : claim.known ≡ false → first_split claim ops ≡ None → (a b : Op) → ¬ IsSplit claim ops a b
  no_split unknown e a b split = by_cases cases
    where
      by_cases : Cases → ⊥
      by_cases (inl n) = none_writeless n a split.a_present split.one
      by_cases (inr (inl (r, is))) = split.apart (one_value r is b split.b_present split.other ∙ sym (one_value r is a split.a_present split.one))
      by_cases (inr (inr (r, s, is))) = let some : Some (r, s) ≡ None = sym (two_pair r s is) ∙ (sym (unknown_split unknown) ∙ e) in cc

  -- where nobody knows the initial value, it is that of all writeless reads
  pub sole_is : claim.known ≡ false → (v : Value) → initial_of claim ops ≡ Some v → ((r : Op) × Contains ops r × IsWriteless claim ops r × (value_of r.act ≡ v)) × ((r : Op) → Contains ops r → IsWriteless claim ops r → value_of r.act ≡ v)
  sole_is unknown v e = by_cases cases
    where
      by_cases : Cases → ((r : Op) × Contains ops r × IsWriteless claim ops r × (value_of r.act ≡ v)) × ((r : Op) → Contains ops r → IsWriteless claim ops r → value_of r.act ≡ v)
      by_cases (inl n) = absurd (let some : Some v ≡ None = sym e ∙ (unknown_initial unknown ∙ none_sole n) in cc)
      by_cases (inr (inl (a, is))) =
          let first = writeless_first claim ops a is.0 in
          let same : value_of a.act ≡ v = let some : Some (value_of a.act) ≡ Some v = sym (unknown_initial unknown ∙ one_sole a is) ∙ e in cc in
          ((a, first.present, first.holds, same), λ r h u. one_value a is r h u ∙ same)
      by_cases (inr (inr (a, b, is))) = absurd (let some : Some v ≡ None = sym e ∙ (unknown_initial unknown ∙ two_sole a b is) in cc)

  -- a value of an operation that is among the `written_values` of the start is among the `values_from` of the initial
  -- value
  pub from_start : (op : Op) → Contains ops op → Contains (written_values (start_of claim ops) ops) (value_of op.act) → Contains (values_from (initial_of claim ops) ops) (value_of op.act)
  from_start op h written = by_initial (initial_of claim ops) refl written
    where
      by_write : (unused_value ops ≡ value_of op.act) ⊎ HasWrite ops (value_of op.act) → Contains (values_from None ops) (value_of op.act)
      by_write (inl e) = absurd (fresh_is_new ops op h (sym e))
      by_write (inr has) = carried ops (value_of op.act) has

      by_initial : (i : Option Value) → initial_of claim ops ≡ i → Contains (written_values (or_fresh ops (initial_of claim ops)) ops) (value_of op.act) → Contains (values_from (initial_of claim ops) ops) (value_of op.act)
      by_initial None e k =
          subst (λ (o : Option Value). Contains (values_from o ops) (value_of op.act)) (sym e)
          (by_write (written_cases (unused_value ops) ops (value_of op.act) (subst (λ (o : Option Value). Contains (written_values (or_fresh ops o) ops) (value_of op.act)) e k)))
      by_initial (Some v) e k =
          subst (λ (o : Option Value). Contains (values_from o ops) (value_of op.act)) (sym e)
          (subst (λ (o : Option Value). Contains (written_values (or_fresh ops o) ops) (value_of op.act)) e k)

  pub first_crossing_from : (a : Option Op) (b : Op) (c : Option Op) (d : Op) → IsFirstCrossingFrom (initial_of claim ops) (start_of claim ops) ops a b c d → IsFirstCrossing (start_of claim ops) ops a b c d
  first_crossing_from a b c d x = record { first = x.first; second = x.second; conflict = conflict_from (initial_of claim ops) ops x.first x.second x.conflict; extremes = x.extremes }

-- after any edits of an atomic register: faultless exactly where it holds
pub faultless_after_edits : (claim : ClaimModel) (edits : List Edit) → let held = standing (unedited claim) edits in held.claim.kind ≡ Atomic → IsFaultless (start_of held.claim held.ops) held.ops ↔ Holds held
faultless_after_edits claim edits atomic =
    let held = standing (unedited claim) edits in
    let apart = standing_apart claim edits in
    subst (λ (kind : Kind). IsFaultless (start_of held.claim held.ops) held.ops ↔ Keeps kind held.claim held.ops) (sym atomic)
    (faultless_is_atomic held.claim held.ops apart.moments apart.ends (apart.values atomic))
