-- A register has one first crossing, and it is a crossing.
use Rattle.std.proofs.Common.{◌≡◌, ◌≢◌, ◌↔◌, ◌⊎◌, inl, inr, List, [], ◌∷◌, ◌++◌, Option, Some, None, refl, sym, ap, subst, ◌∙◌}
use Rattle.std.specs.Prelude.{Contains, IsPermutation, map}
use Rattle.std.specs.List.{AllPairs}
use Rattle.std.proofs.lemmas.List.Elements.{All-contains, Contains-append_left, Contains-append_right}
use Rattle.std.proofs.lemmas.List.Sorted.{IsPermutation-sym, All-permutation, Contains-permutation}
use Rattle.intervals.specs.declared.operation.Op.{Op}
use Rattle.intervals.specs.declared.operation.Moment.{Moment}
use Rattle.intervals.specs.declared.operation.Value.{Value}
use Rattle.intervals.specs.Standing.{HasDistinctMoments}
use Rattle.zone_tree.specs.declared.edge.Edge.{Edge}
use Rattle.zone_tree.specs.declared.edge.Edge.TheVariants.{Before, At}
use Rattle.zone_tree.specs.declared.zone.Zone.{Zone}
use Rattle.zone_tree.specs.Edge.{ComesBefore}
use Rattle.zone_tree.specs.Zone.{HasOrderedEdges, Conflicts}
use Rattle.zone_tree.specs.Conflict.{IsFirstConflict}
use Rattle.zone_tree.specs.Order.{IsByLeft, StandInOrder}
use Rattle.zones.specs.Cluster.{edge_of_end, cluster_of, least_end_of, greatest_begin_of, zone_of, written_values, zones_of}
use Rattle.zones.specs.Crossing.{IsCrossing, HasLeastEnd, HasGreatestBegin, AreExtremes, HasFirstConflict, IsFirstCrossing}
use Rattle.zones.proofs.EdgeOrder.{before_irreflexive}
use Rattle.zones.proofs.Judged.{is_judged}
use Rattle.zones.proofs.Members.{here, in_none, contains_cases, kept_present, pairs_head, pairs_tail}
use Rattle.zones.proofs.Cluster.{least_initial, value_is, conflict_is, member_of, extremes_cross}
use Rattle.zones.proofs.OneTurn.{one_holder}
use Rattle.zones.proofs.Excluded.{zones_ordered}

-- what comes before an element is so related to it
before_it : (R : Zone → Zone → Type 0) (earlier : List Zone) (z : Zone) (later : List Zone) → AllPairs R (earlier ++ z ∷ later) → (x : Zone) → Contains earlier x → R x z
before_it R [] z later pairs x h = absurd (in_none x h)
before_it R (a ∷ earlier) z later pairs x h = by_cases (contains_cases a earlier x h) (before_it R earlier z later (pairs_tail R a (earlier ++ z ∷ later) pairs) x)
  where
    by_cases : (a ≡ x) ⊎ Contains earlier x → (Contains earlier x → R x z) → R x z
    by_cases (inl e) rest = subst (λ (y : Zone). R y z) e (All-contains (R a) (earlier ++ z ∷ later) z (pairs_head R a (earlier ++ z ∷ later) pairs) (Contains-append_right earlier (z ∷ later) z (here z later)))
    by_cases (inr h) rest = rest h

-- the four operations are the four others
abbrev Same : Option Op → Op → Option Op → Op → Option Op → Op → Option Op → Op → Type 0
Same a b c d e f g h = (a ≡ e) × (b ≡ f) × (c ≡ g) × (d ≡ h)

module _ (initial : Value) (ops : List Op) where
  -- a zone of the register is that of its value
  zone_is : (values : List Value) (z : Zone) → Contains (map (zone_of initial ops) values) z → zone_of initial ops z.value ≡ z
  zone_is [] z h = absurd (in_none z h)
  zone_is (v ∷ values) z h = by_cases (contains_cases (zone_of initial ops v) (map (zone_of initial ops) values) z h) (zone_is values z)
    where
      by_cases : (zone_of initial ops v ≡ z) ⊎ Contains (map (zone_of initial ops) values) z → (Contains (map (zone_of initial ops) values) z → zone_of initial ops z.value ≡ z) → zone_of initial ops z.value ≡ z
      by_cases (inl e) rest = ap (zone_of initial ops) (ap (λ (x : Zone). x.value) (sym e) ∙ value_is initial ops v) ∙ e
      by_cases (inr h) rest = rest h

  module _ (first second : Zone) (h : HasFirstConflict initial ops first second) where
    of_value : (z : Zone) → Contains (h.conflict.earlier ++ second ∷ h.conflict.later) z → zone_of initial ops z.value ≡ z
    of_value z k =
        zone_is (written_values initial ops) z
        (Contains-permutation h.zones (zones_of initial ops) z (IsPermutation-sym (zones_of initial ops) h.zones h.each_once) (subst (λ (zs : List Zone). Contains zs z) (sym h.conflict.parts) k))

    first_zone : zone_of initial ops first.value ≡ first
    first_zone = of_value first (Contains-append_left h.conflict.earlier (second ∷ h.conflict.later) first h.conflict.farthest.present)

    second_zone : zone_of initial ops second.value ≡ second
    second_zone = of_value second (Contains-append_right h.conflict.earlier (second ∷ h.conflict.later) second (here second h.conflict.later))

    left_before : ComesBefore first.left second.left
    left_before = before_it (λ a b. ComesBefore a.left b.left) h.conflict.earlier second h.conflict.later (subst IsByLeft h.conflict.parts h.by_left) first h.conflict.farthest.present

    values_apart : first.value ≢ second.value
    values_apart e =
        let same : first ≡ second = sym first_zone ∙ (ap (zone_of initial ops) e ∙ second_zone) in
        before_irreflexive second.left (subst (λ (z : Zone). ComesBefore z.left second.left) same left_before)

    pub of_values : Conflicts (zone_of initial ops first.value) (zone_of initial ops second.value)
    of_values = subst (λ (z : Zone). Conflicts z (zone_of initial ops second.value)) (sym first_zone) (subst (Conflicts first) (sym second_zone) h.conflict.conflict)

  pub first_crosses : (a : Option Op) (b : Op) (c : Option Op) (d : Op) → IsFirstCrossing initial ops a b c d → IsCrossing initial ops a b c d
  first_crosses a b c d x =
      extremes_cross initial ops x.first.value x.second.value a b c d
      (values_apart x.first x.second x.conflict) (of_values x.first x.second x.conflict) x.extremes

  -- a cluster has one operation of least end, and one of greatest beginning
  module _ (moments : HasDistinctMoments ops) where
    present : (v : Value) (x : Op) → Contains (cluster_of ops v) x → Contains ops x
    present v x h = (kept_present is_judged ops x (member_of initial ops v x h).0).0

    same_end : (v : Value) (x y : Op) (other : Edge) → ComesBefore (least_end_of initial ops v) other → HasLeastEnd initial ops v (Some x) → HasLeastEnd initial ops v (Some y) → x ≡ y
    same_end v x y other p h k = by_ends x.end y.end refl refl (h.1 ∙ sym k.1) (subst (λ (e : Edge). ComesBefore e other) (sym h.1) p)
      where
        by_ends : (m n : Option Moment) → x.end ≡ m → y.end ≡ n → edge_of_end m ≡ edge_of_end n → ComesBefore (edge_of_end m) other → x ≡ y
        by_ends None n e f g p = absurd (cc)
        by_ends (Some m) None e f g p = absurd (cc)
        by_ends (Some m) (Some n) e f g p = one_holder ops moments x y (present v x h.0) (present v y k.0) m (inr e) (inr (f ∙ ap Some (let same : n ≡ m = cc in same)))

    not_initial : (v : Value) (x : Op) → v ≡ initial → ¬ HasLeastEnd initial ops v (Some x)
    not_initial v x e h = by_end x.end (h.1 ∙ (ap (least_end_of initial ops) e ∙ least_initial initial ops))
      where
        by_end : (m : Option Moment) → edge_of_end m ≡ Before → ⊥
        by_end None e = absurd (cc)
        by_end (Some m) e = absurd (cc)

    one_least : (v : Value) (x y : Option Op) (other : Edge) → ComesBefore (least_end_of initial ops v) other → HasLeastEnd initial ops v x → HasLeastEnd initial ops v y → x ≡ y
    one_least v None None other p h k = refl
    one_least v None (Some y) other p h k = absurd (not_initial v y h k)
    one_least v (Some x) None other p h k = absurd (not_initial v x k h)
    one_least v (Some x) (Some y) other p h k = ap Some (same_end v x y other p h k)

    one_greatest : (v : Value) (x y : Op) → HasGreatestBegin initial ops v x → HasGreatestBegin initial ops v y → x ≡ y
    one_greatest v x y h k =
        let same : At y.begin ≡ At x.begin = k.1 ∙ sym h.1 in
        one_holder ops moments x y (present v x h.0) (present v y k.0) x.begin (inl refl) (inl (let begin : y.begin ≡ x.begin = cc in begin))

    one_extremes : (u v : Value) (a : Option Op) (b : Op) (c : Option Op) (d : Op) (e : Option Op) (f : Op) (g : Option Op) (h : Op) → Conflicts (zone_of initial ops u) (zone_of initial ops v) → AreExtremes initial ops u v a b c d → AreExtremes initial ops u v e f g h → Same a b c d e f g h
    one_extremes u v a b c d e f g h conflict x y =
        let (one, other) = (conflict_is initial ops u v).0 conflict in (
          one_least u a e (greatest_begin_of initial ops v) one x.a_least y.a_least,
          one_greatest v b f x.b_greatest y.b_greatest,
          one_least v c g (greatest_begin_of initial ops u) other x.c_least y.c_least,
          one_greatest u d h x.d_greatest y.d_greatest,
        )

  -- a register has one first conflict and one first crossing
  module _ (one_order : (zones others : List Zone) → IsByLeft zones → IsByLeft others → ((z : Zone) → Contains zones z ↔ Contains others z) → zones ≡ others) (one_first : (zones : List Zone) (a b c d : Zone) → StandInOrder zones → IsFirstConflict zones a b → IsFirstConflict zones c d → (a ≡ c) × (b ≡ d)) where
    among : (one other : List Zone) → IsPermutation (zones_of initial ops) one → IsPermutation (zones_of initial ops) other → (z : Zone) → Contains one z → Contains other z
    among one other p q z h = Contains-permutation (zones_of initial ops) other z q (Contains-permutation one (zones_of initial ops) z (IsPermutation-sym (zones_of initial ops) one p) h)

    pub same_conflict : (p q r s : Zone) → HasFirstConflict initial ops p q → HasFirstConflict initial ops r s → (p ≡ r) × (q ≡ s)
    same_conflict p q r s h k =
        let same : h.zones ≡ k.zones =
        one_order h.zones k.zones h.by_left k.by_left (λ z. (among h.zones k.zones h.each_once k.each_once z, among k.zones h.zones k.each_once h.each_once z))
        in
        one_first k.zones p q r s
        (record { by_left = k.by_left; edges = All-permutation HasOrderedEdges (zones_of initial ops) k.zones k.each_once (zones_ordered initial ops) })
        (subst (λ (zs : List Zone). IsFirstConflict zs p q) same h.conflict) k.conflict

    pub first_is_one : HasDistinctMoments ops → (a : Option Op) (b : Op) (c : Option Op) (d : Op) (e : Option Op) (f : Op) (g : Option Op) (h : Op) → IsFirstCrossing initial ops a b c d → IsFirstCrossing initial ops e f g h → Same a b c d e f g h
    first_is_one moments a b c d e f g h x y =
        let (first, second) = same_conflict x.first x.second y.first y.second x.conflict y.conflict in
        one_extremes moments y.first.value y.second.value a b c d e f g h
        (of_values y.first y.second y.conflict)
        (subst (λ (v : Value). AreExtremes initial ops y.first.value v a b c d) (ap (λ (z : Zone). z.value) second)
        (subst (λ (v : Value). AreExtremes initial ops v x.second.value a b c d) (ap (λ (z : Zone). z.value) first) x.extremes))
        y.extremes
