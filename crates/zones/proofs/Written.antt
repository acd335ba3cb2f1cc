-- The values that have a write, and their zones, are those of the judged operations.
use Rattle.std.proofs.Common.{◌≡◌, ◌≢◌, ◌⊎◌, inl, inr, Bool, false, pos, List, ◌∷◌, Option, Some, refl, sym, ap, ◌∙◌, subst, cond}
use Rattle.std.specs.Prelude.{Contains, map}
use Rattle.intervals.specs.declared.operation.Op.{Op}
use Rattle.std.proofs.lemmas.Bool.{false_from_ne_true}
use Rattle.intervals.specs.declared.operation.Value.{Value}
use Rattle.intervals.specs.declared.operation.Value.TheVariants.{Nil, Int}
use Rattle.intervals.specs.Operation.{is_write, judged, same_value, value_of, writes}
use Rattle.intervals.specs.Standing.{HasDistinctMoments}
use Rattle.zone_tree.specs.declared.edge.Edge.{Edge}
use Rattle.zone_tree.specs.declared.edge.Edge.TheVariants.{Before, At, Never}
use Rattle.zone_tree.specs.declared.zone.Zone.{Zone}
use Rattle.zone_tree.specs.Zone.{HasOrderedEdges}
use Rattle.zones.specs.AtFirst.{unused_value}
use Rattle.zones.specs.Cluster.{cluster_of, edge_of_end, greatest_begin_in, initial_span, least_end_in, least_end_of, greatest_begin_of, interval_of, zone_between, zone_of, written_values, written_zone}
use Rattle.zones.specs.Members.{HasWrite, IsTheWriteAt, IsChange}
use Rattle.zones.proofs.Fresh.{fresh_is_new}
use Rattle.zones.proofs.Judged.{is_judged, judged_write}
use Rattle.zones.proofs.Members.{Decides-same_value, here, there, contains_cases, kept, kept_present, mapped}
use Rattle.zones.proofs.EdgeOrder.{AtMost, at_most_both, before_all}
use Rattle.zones.proofs.Cluster.{IsMember, EdgeIn, edges_in_order, left, least_held, least_at_most, least_initial, greatest_held, greatest_at_least, left_initial, left_in, settle, value_is}
use Rattle.zones.proofs.Edited.{from_map}

-- a value has a write: it is the initial one, or that of a write among the operations
abbrev pub IsWritten : Value → List Op → Value → Type 0
IsWritten initial ops v = Contains (written_values initial ops) v

pub written_cases : (initial : Value) (ops : List Op) (v : Value) → IsWritten initial ops v → (initial ≡ v) ⊎ ((w : Op) × IsTheWriteAt ops v w)
written_cases initial ops v h = by_cases (contains_cases initial (map (λ w. value_of w.act) (writes ops)) v h)
  where
    by_write : (w : Op) × Contains (writes ops) w × (value_of w.act ≡ v) → (w : Op) × IsTheWriteAt ops v w
    by_write (w, k, e) = let (present, write) = kept_present is_write ops w k in (w, record { present = present; write = write; same = e })

    by_cases : (initial ≡ v) ⊎ Contains (map (λ w. value_of w.act) (writes ops)) v → (initial ≡ v) ⊎ ((w : Op) × IsTheWriteAt ops v w)
    by_cases (inl e) = inl e
    by_cases (inr k) = inr (by_write (from_map (λ w. value_of w.act) (writes ops) v k))

pub written_initial : (initial : Value) (ops : List Op) → IsWritten initial ops initial
written_initial initial ops = here initial (map (λ w. value_of w.act) (writes ops))

pub written_by : (initial : Value) (ops : List Op) (v : Value) (w : Op) → IsTheWriteAt ops v w → IsWritten initial ops v
written_by initial ops v w is =
    there initial (map (λ w. value_of w.act) (writes ops)) v
    (subst (λ (u : Value). Contains (map (λ w. value_of w.act) (writes ops)) u) is.same
    (mapped (λ w. value_of w.act) (writes ops) w (kept is_write ops w is.present is.write)))

pub write_member : (initial : Value) (ops : List Op) (v : Value) (w : Op) → IsTheWriteAt ops v w → IsMember initial ops v w
write_member initial ops v w is = (kept is_judged ops w is.present (judged_write w is.write), is.same)

-- the left edges of different values that have a write are different
edge_written : (initial : Value) (ops : List Op) (v : Value) → IsWritten initial ops v → EdgeIn initial ops v (left initial ops v)
edge_written initial ops v h = by_cases (written_cases initial ops v h)
  where
    by_cases : (initial ≡ v) ⊎ ((w : Op) × IsTheWriteAt ops v w) → EdgeIn initial ops v (left initial ops v)
    by_cases (inl e) = subst (λ (u : Value). EdgeIn initial ops u (left initial ops u)) e (subst (EdgeIn initial ops initial) (sym (left_initial initial ops)) refl)
    by_cases (inr (w, is)) = left_in initial ops v w (write_member initial ops v w is)

left_apart : (initial : Value) (ops : List Op) → HasDistinctMoments ops → (u v : Value) → IsWritten initial ops u → IsWritten initial ops v → left initial ops u ≡ left initial ops v → u ≡ v
left_apart initial ops moments u v h k e =
    settle initial ops moments u v (left initial ops v) (subst (EdgeIn initial ops u) e (edge_written initial ops u h)) (edge_written initial ops v k)

pub never_last : (a : Edge) → AtMost a Never
never_last a h = absurd (cc)

-- a cluster with more members has no later least end, and no earlier greatest beginning
module _ (initial : Value) (ops more : List Op) (v : Value) (each : (op : Op) → IsMember initial ops v op → IsMember initial more v op) where
  least_of_more : AtMost (least_end_of initial more v) (least_end_of initial ops v)
  least_of_more = by_cases (least_held initial ops v)
    where
      by_cases : (least_end_of initial ops v ≡ Never) ⊎ (((least_end_of initial ops v ≡ Before) × (v ≡ initial)) ⊎ ((op : Op) × IsMember initial ops v op × (edge_of_end op.end ≡ least_end_of initial ops v))) → AtMost (least_end_of initial more v) (least_end_of initial ops v)
      by_cases (inl e) = subst (λ (x : Edge). AtMost (least_end_of initial more v) x) (sym e) (never_last (least_end_of initial more v))
      by_cases (inr (inl (e, i))) =
          let none : least_end_of initial more v ≡ Before = subst (λ (u : Value). least_end_of initial more u ≡ Before) (sym i) (least_initial initial more) in
          subst (λ (x : Edge). AtMost x (least_end_of initial ops v)) (sym none) (before_all (least_end_of initial ops v))
      by_cases (inr (inr (op, h, e))) = subst (λ (x : Edge). AtMost (least_end_of initial more v) x) e (least_at_most initial more v op (each op h))

  greatest_of_more : AtMost (greatest_begin_of initial ops v) (greatest_begin_of initial more v)
  greatest_of_more = by_cases (greatest_held initial ops v)
    where
      by_cases : (greatest_begin_of initial ops v ≡ Before) ⊎ ((op : Op) × IsMember initial ops v op × (At op.begin ≡ greatest_begin_of initial ops v)) → AtMost (greatest_begin_of initial ops v) (greatest_begin_of initial more v)
      by_cases (inl e) = subst (λ (x : Edge). AtMost x (greatest_begin_of initial more v)) (sym e) (before_all (greatest_begin_of initial more v))
      by_cases (inr (op, h, e)) = subst (λ (x : Edge). AtMost x (greatest_begin_of initial more v)) e (greatest_at_least initial more v op (each op h))

-- a value that has a write keeps it where what goes is of another value, and had it before where what comes is of
-- another value
module _ (before : List Op) (old new : Option Op) (after : List Op) (change : IsChange before old new after) (v : Value) where
  pub write_still : ((op : Op) → old ≡ Some op → value_of op.act ≢ v) → HasWrite before v → HasWrite after v
  write_still apart (w, is) = by_place (change.stay w (write_member v before v w is).0)
    where
      by_place : (old ≡ Some w) ⊎ Contains (judged after) w → HasWrite after v
      by_place (inl e) = absurd (apart w e is.same)
      by_place (inr k) = (w, record { present = (kept_present is_judged after w k).0; write = is.write; same = is.same })

  pub write_stood : ((op : Op) → new ≡ Some op → value_of op.act ≢ v) → HasWrite after v → HasWrite before v
  write_stood apart (w, is) = by_place (change.stood w (write_member v after v w is).0)
    where
      by_place : (new ≡ Some w) ⊎ (Contains (judged before) w × (old ≢ Some w)) → HasWrite before v
      by_place (inl e) = absurd (apart w e is.same)
      by_place (inr (k, n)) = (w, record { present = (kept_present is_judged before w k).0; write = is.write; same = is.same })

-- a change touches only the values of the operations that go and come
module _ (initial : Value) (before : List Op) (old new : Option Op) (after : List Op) (change : IsChange before old new after) (v : Value) where
  module _ (not_old : (op : Op) → old ≡ Some op → value_of op.act ≢ v) (not_new : (op : Op) → new ≡ Some op → value_of op.act ≢ v) where
    still : (op : Op) → IsMember initial before v op → IsMember initial after v op
    still op (h, e) = by_cases (change.stay op h)
      where
        by_cases : (old ≡ Some op) ⊎ Contains (judged after) op → IsMember initial after v op
        by_cases (inl f) = absurd (not_old op f e)
        by_cases (inr k) = (k, e)

    stood : (op : Op) → IsMember initial after v op → IsMember initial before v op
    stood op (h, e) = by_cases (change.stood op h)
      where
        by_cases : (new ≡ Some op) ⊎ (Contains (judged before) op × (old ≢ Some op)) → IsMember initial before v op
        by_cases (inl f) = absurd (not_new op f e)
        by_cases (inr (k, n)) = (k, e)

    zone_kept : zone_of initial before v ≡ zone_of initial after v
    zone_kept =
        ap (λ (m : Edge). zone_between m (greatest_begin_of initial before v) v)
        (at_most_both (least_end_of initial before v) (least_end_of initial after v) (least_of_more initial after before v stood) (least_of_more initial before after v still))
        ∙ ap (λ (m : Edge). zone_between (least_end_of initial after v) m v)
        (at_most_both (greatest_begin_of initial before v) (greatest_begin_of initial after v) (greatest_of_more initial before after v still) (greatest_of_more initial after before v stood))

-- the zone of a value that is not the initial one
pub written_zone_is : (initial : Value) (ops : List Op) (v : Value) → v ≢ initial → zone_of initial ops v ≡ written_zone ops v
written_zone_is initial ops v n =
    let own = map interval_of (cluster_of ops v) in
    let other : same_value initial v ≡ false = false_from_ne_true (same_value initial v) (λ t. n (sym ((Decides-same_value initial v).0 t))) in
    ap (λ (t : Bool). zone_between (least_end_in (cond t (initial_span ∷ own) own)) (greatest_begin_in (cond t (initial_span ∷ own) own)) v) other

-- for each value there is another one
pub other_than : (v : Value) → (u : Value) × (v ≢ u)
other_than Nil = (Int (pos 0), λ e. absurd (cc))
other_than (Int n) = (Nil, λ e. absurd (cc))

pub written_value : (ops : List Op) (v : Value) → (written_zone ops v).value ≡ v
written_value ops v =
    let (u, n) = other_than v in
    ap (λ (z : Zone). z.value) (sym (written_zone_is u ops v n)) ∙ value_is u ops v

pub written_in_order : (ops : List Op) (v : Value) → HasOrderedEdges (written_zone ops v)
written_in_order ops v = let (u, n) = other_than v in subst HasOrderedEdges (written_zone_is u ops v n) (edges_in_order u ops v)

pub written_zone_kept : (before : List Op) (old new : Option Op) (after : List Op) → IsChange before old new after → (v : Value)
    → ((op : Op) → old ≡ Some op → value_of op.act ≢ v) → ((op : Op) → new ≡ Some op → value_of op.act ≢ v) → written_zone before v ≡ written_zone after v
written_zone_kept before old new after change v not_old not_new =
    let (u, n) = other_than v in
    sym (written_zone_is u before v n) ∙ (zone_kept u before old new after change v not_old not_new ∙ written_zone_is u after v n)

-- of two values that have a write the left edges are different
pub one_left : (ops : List Op) → HasDistinctMoments ops → (u v : Value) → HasWrite ops u → HasWrite ops v → (written_zone ops u).left ≡ (written_zone ops v).left → u ≡ v
one_left ops moments u v (w, is) (x, is_x) e =
    let i = unused_value ops in
    let new : (v : Value) (w : Op) → IsTheWriteAt ops v w → v ≢ i = λ v w is f. fresh_is_new ops w is.present (is.same ∙ f) in
    left_apart i ops moments u v (written_by i ops u w is) (written_by i ops v x is_x)
    (ap (λ (z : Zone). z.left) (written_zone_is i ops u (new u w is)) ∙ (e ∙ ap (λ (z : Zone). z.left) (sym (written_zone_is i ops v (new v x is_x)))))
