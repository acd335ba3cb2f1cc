-- The edges of a value: what an edit makes of them, and the zone and the stretch that they give.
use Rattle.std.proofs.Common.{◌≡◌, ◌≢◌, ◌↔◌, ◌⊎◌, inl, inr, Bool, true, false, ◌&&◌, List, Option, Some, None, refl, sym, ap, ◌∙◌, subst, cond}
use Rattle.std.specs.Prelude.{Contains, IfSome, IsSome, IsTrue}
use Rattle.std.proofs.lemmas.Bool.{both_ways}
use Rattle.std.proofs.lemmas.List.Elements.{All-contains}
use Rattle.intervals.specs.declared.operation.Op.{Op}
use Rattle.intervals.specs.declared.operation.Moment.{Moment}
use Rattle.intervals.specs.declared.operation.OpId.{OpId}
use Rattle.intervals.specs.declared.operation.Value.{Value}
use Rattle.intervals.specs.Operation.{IsJudgedRead, IsWrite, is_judged_read, is_write, judged, same_value, value_of}
use Rattle.zone_tree.specs.declared.stretch.Stretch.{Stretch}
use Rattle.zone_tree.specs.declared.edge.Edge.{Edge}
use Rattle.zone_tree.specs.declared.edge.Edge.TheVariants.{Before, At, Never}
use Rattle.zone_tree.specs.Edge.{ComesBefore, earlier_edge, later_edge, same_edge}
use Rattle.zone_tree.proofs.EdgeOrder.{Decides-same_edge}
use Rattle.zones.specs.Cluster.{edge_of_end}
use Rattle.zones.specs.Edges.{AreEdges, AreReadEdges, AreWriteEdges, NamesWrite, op_if_of_value, read_part, write_part}
use Rattle.zone_tree.specs.declared.zone.Zone.{Zone}
use Rattle.zones.specs.declared.edges.Edges.{Edges}
use Rattle.zones.specs.Faults.{IsAtFault, IsRead, IsStretchAt, begin_of_write, first_end_of, edge_moment, write_of}
use Rattle.intervals.specs.Standing.{IsInitial}
use Rattle.intervals.specs.Terms.{ClaimModel}
use Rattle.intervals.specs.Kind.{HasNoWrite}
use Rattle.zones.specs.Members.{HasWrite, IsChange, IsGreatestBegin, IsLeastEnd, IsTheWriteAt}
use Rattle.zones.specs.Zoned.{IsZoneAt}
use Rattle.zones.proofs.EdgeOrder.{AtMost, at_most_both, at_most_itself, at_most_transitive, earlier-cases, earlier-left, earlier-right, later-cases, later-left, later-right}
use Rattle.zones.proofs.Ends.{in_judged-read, in_judged-write, none_begins, none_ends}
use Rattle.zones.proofs.Judged.{is_judged}
use Rattle.zones.proofs.Members.{Decides-same_value, all_from, kept_present}
use Rattle.zones.proofs.Stretches.{BeginCases, IsHeld, at_write, begin_cases, first_at_most, first_end_is, first_held, first_of_reads, never_written, no_write, no_write_at, written}
use Rattle.zones.proofs.Written.{never_last}

-- an operation that passes the test and has the value is kept
passes : (test : Op → Bool) (v : Value) (op : Op) → test op ≡ true → value_of op.act ≡ v → op_if_of_value test v (Some op) ≡ Some op
passes test v op t e = let s : same_value (value_of op.act) v ≡ true = (Decides-same_value (value_of op.act) v).1 e in rw (t, s) refl

passed : (test : Op → Bool) (v : Value) (found : Option Op) (op : Op) → op_if_of_value test v found ≡ Some op → (found ≡ Some op) × (test op ≡ true) × (value_of op.act ≡ v)
passed test v None op e = absurd (cc)
passed test v (Some x) op e = by_cases (test x) (same_value (value_of x.act) v) refl refl e
  where
    by_cases : (t s : Bool) → test x ≡ t → same_value (value_of x.act) v ≡ s → cond (t && s) (Some x) None ≡ Some op → (Some x ≡ Some op) × (test op ≡ true) × (value_of op.act ≡ v)
    by_cases true true p q f = let same : x ≡ op = cc in (f, subst (λ (o : Op). test o ≡ true) same p, subst (λ (o : Op). value_of o.act ≡ v) same ((Decides-same_value (value_of x.act) v).0 q))
    by_cases true false p q f = absurd (cc)
    by_cases false s p q f = absurd (cc)

-- the edges of the operations that pass a test and have the value, before and after a change
module _ (test : Op → Bool) (before : List Op) (old new : Option Op) (after : List Op) (change : IsChange before old new after) (v : Value)
    (judged_by : (ops : List Op) (op : Op) → Contains ops op → test op ≡ true → Contains (judged ops) op) where
  abbrev Passes : Op → Type 0
  Passes op = test op ≡ true

  came : (op : Op) → new ≡ Some op → Contains after op
  came op e = let h : IfSome (Some op) (λ op. Contains (judged after) op) = subst (λ (n : Option Op). IfSome n (λ op. Contains (judged after) op)) e change.comes in (kept_present is_judged after op h).0

  stayed : (op : Op) → Contains before op → test op ≡ true → old ≢ Some op → Contains after op
  stayed op h t n = by_cases (change.stay op (judged_by before op h t))
    where
      by_cases : (old ≡ Some op) ⊎ Contains (judged after) op → Contains after op
      by_cases (inl e) = absurd (n e)
      by_cases (inr k) = (kept_present is_judged after op k).0

  stood : (op : Op) → Contains after op → test op ≡ true → (new ≡ Some op) ⊎ Contains before op
  stood op h t = by_cases (change.stood op (judged_by after op h t))
    where
      by_cases : (new ≡ Some op) ⊎ (Contains (judged before) op × (old ≢ Some op)) → (new ≡ Some op) ⊎ Contains before op
      by_cases (inl e) = inl e
      by_cases (inr (k, n)) = inr (kept_present is_judged before op k).0

  not_new : op_if_of_value test v new ≡ None → (op : Op) → test op ≡ true → value_of op.act ≡ v → new ≢ Some op
  not_new none op t e f = absurd (let g : Some op ≡ None = sym (passes test v op t e) ∙ (ap (op_if_of_value test v) (sym f) ∙ none) in cc)

  is_new : (r : Op) → op_if_of_value test v new ≡ Some r → (new ≡ Some r) × (test r ≡ true) × (value_of r.act ≡ v)
  is_new r comes = passed test v new r comes

  one_new : (r : Op) → op_if_of_value test v new ≡ Some r → (op : Op) → new ≡ Some op → r ≡ op
  one_new r comes op e = let f : Some r ≡ Some op = sym (is_new r comes).0 ∙ e in cc

  -- the edge is not that of what went, where that passes and has the value
  abbrev HoldsNot : (Op → Edge) → Edge → Type 0
  HoldsNot at edge = IfSome (op_if_of_value test v old) (λ op. at op ≢ edge)

  not_gone : (at : Op → Edge) (edge : Edge) → HoldsNot at edge → (op : Op) → test op ≡ true → value_of op.act ≡ v → at op ≡ edge → old ≢ Some op
  not_gone at edge still op t e f g =
      let is : op_if_of_value test v old ≡ Some op = ap (op_if_of_value test v) g ∙ passes test v op t e in
      let other : at op ≢ edge = subst (λ (o : Option Op). IfSome o (λ op. at op ≢ edge)) is still in
      other f

  module _ (edge : Edge) (still : HoldsNot (λ op. edge_of_end op.end) edge) where
    same_end : op_if_of_value test v new ≡ None → IsLeastEnd Passes before v edge → IsLeastEnd Passes after v edge
    same_end none is = record {
      least = all_from (λ op. Passes op → value_of op.act ≡ v → AtMost edge (edge_of_end op.end)) after (λ op h t e. by_place op t e (stood op h t));
      held = by_held is.held;
    }
      where
        by_place : (op : Op) → test op ≡ true → value_of op.act ≡ v → (new ≡ Some op) ⊎ Contains before op → AtMost edge (edge_of_end op.end)
        by_place op t e (inl f) = absurd (not_new none op t e f)
        by_place op t e (inr k) = All-contains (λ op. Passes op → value_of op.act ≡ v → AtMost edge (edge_of_end op.end)) before op is.least k t e

        by_held : (edge ≡ Never) ⊎ ((op : Op) × Contains before op × Passes op × (value_of op.act ≡ v) × (edge_of_end op.end ≡ edge)) → (edge ≡ Never) ⊎ ((op : Op) × Contains after op × Passes op × (value_of op.act ≡ v) × (edge_of_end op.end ≡ edge))
        by_held (inl e) = inl e
        by_held (inr (op, h, t, e, f)) = inr (op, stayed op h t (not_gone (λ op. edge_of_end op.end) edge still op t e f), t, e, f)

    module _ (r : Op) (comes : op_if_of_value test v new ≡ Some r) where
      more_end : IsLeastEnd Passes before v edge → IsLeastEnd Passes after v (earlier_edge edge (edge_of_end r.end))
      more_end is = record {
        least = all_from (λ op. Passes op → value_of op.act ≡ v → AtMost least (edge_of_end op.end)) after (λ op h t e. by_place op t e (stood op h t));
        held = by_cases (earlier-cases edge (edge_of_end r.end)) is.held;
      }
        where
          least : Edge
          least = earlier_edge edge (edge_of_end r.end)

          by_place : (op : Op) → test op ≡ true → value_of op.act ≡ v → (new ≡ Some op) ⊎ Contains before op → AtMost least (edge_of_end op.end)
          by_place op t e (inl f) = subst (λ (x : Op). AtMost least (edge_of_end x.end)) (one_new r comes op f) (earlier-right edge (edge_of_end r.end))
          by_place op t e (inr k) =
              at_most_transitive least edge (edge_of_end op.end) (earlier-left edge (edge_of_end r.end))
              (All-contains (λ op. Passes op → value_of op.act ≡ v → AtMost edge (edge_of_end op.end)) before op is.least k t e)

          by_cases : (edge ≡ least) ⊎ (edge_of_end r.end ≡ least) → (edge ≡ Never) ⊎ ((op : Op) × Contains before op × Passes op × (value_of op.act ≡ v) × (edge_of_end op.end ≡ edge))
              → (least ≡ Never) ⊎ ((op : Op) × Contains after op × Passes op × (value_of op.act ≡ v) × (edge_of_end op.end ≡ least))
          by_cases (inl e) (inl f) = inl (sym e ∙ f)
          by_cases (inl e) (inr (op, h, t, s, f)) = inr (op, stayed op h t (not_gone (λ op. edge_of_end op.end) edge still op t s f), t, s, f ∙ e)
          by_cases (inr e) held = let is = is_new r comes in inr (r, came r is.0, is.1, is.2, e)

  module _ (edge : Edge) (still : HoldsNot (λ op. At op.begin) edge) where
    same_begin : op_if_of_value test v new ≡ None → IsGreatestBegin Passes before v edge → IsGreatestBegin Passes after v edge
    same_begin none is = record {
      greatest = all_from (λ op. Passes op → value_of op.act ≡ v → AtMost (At op.begin) edge) after (λ op h t e. by_place op t e (stood op h t));
      held = by_held is.held;
    }
      where
        by_place : (op : Op) → test op ≡ true → value_of op.act ≡ v → (new ≡ Some op) ⊎ Contains before op → AtMost (At op.begin) edge
        by_place op t e (inl f) = absurd (not_new none op t e f)
        by_place op t e (inr k) = All-contains (λ op. Passes op → value_of op.act ≡ v → AtMost (At op.begin) edge) before op is.greatest k t e

        by_held : (edge ≡ Before) ⊎ ((op : Op) × Contains before op × Passes op × (value_of op.act ≡ v) × (At op.begin ≡ edge)) → (edge ≡ Before) ⊎ ((op : Op) × Contains after op × Passes op × (value_of op.act ≡ v) × (At op.begin ≡ edge))
        by_held (inl e) = inl e
        by_held (inr (op, h, t, e, f)) = inr (op, stayed op h t (not_gone (λ op. At op.begin) edge still op t e f), t, e, f)

    module _ (r : Op) (comes : op_if_of_value test v new ≡ Some r) where
      more_begin : IsGreatestBegin Passes before v edge → IsGreatestBegin Passes after v (later_edge edge (At r.begin))
      more_begin is = record {
        greatest = all_from (λ op. Passes op → value_of op.act ≡ v → AtMost (At op.begin) greatest) after (λ op h t e. by_place op t e (stood op h t));
        held = by_cases (later-cases edge (At r.begin)) is.held;
      }
        where
          greatest : Edge
          greatest = later_edge edge (At r.begin)

          by_place : (op : Op) → test op ≡ true → value_of op.act ≡ v → (new ≡ Some op) ⊎ Contains before op → AtMost (At op.begin) greatest
          by_place op t e (inl f) = subst (λ (x : Op). AtMost (At x.begin) greatest) (one_new r comes op f) (later-right edge (At r.begin))
          by_place op t e (inr k) =
              at_most_transitive (At op.begin) edge greatest
              (All-contains (λ op. Passes op → value_of op.act ≡ v → AtMost (At op.begin) edge) before op is.greatest k t e)
              (later-left edge (At r.begin))

          by_cases : (edge ≡ greatest) ⊎ (At r.begin ≡ greatest) → (edge ≡ Before) ⊎ ((op : Op) × Contains before op × Passes op × (value_of op.act ≡ v) × (At op.begin ≡ edge))
              → (greatest ≡ Before) ⊎ ((op : Op) × Contains after op × Passes op × (value_of op.act ≡ v) × (At op.begin ≡ greatest))
          by_cases (inl e) (inl f) = inl (sym e ∙ f)
          by_cases (inl e) (inr (op, h, t, s, f)) = inr (op, stayed op h t (not_gone (λ op. At op.begin) edge still op t s f), t, s, f ∙ e)
          by_cases (inr e) held = let is = is_new r comes in inr (r, came r is.0, is.1, is.2, e)

-- two edges that differ by the test are different
differ : (a b : Edge) → same_edge a b ≡ false → a ≢ b
differ a b apart e = both_ways (same_edge a b) apart ((Decides-same_edge a b).1 e)

pub edges_apart : (at : Op → Edge) (edge : Edge) (found : Option Op) → IfSome found (λ op. same_edge (at op) edge ≡ false) → IfSome found (λ op. at op ≢ edge)
edges_apart at edge None apart = tt
edges_apart at edge (Some op) apart = differ (at op) edge apart

-- nothing went that passes and has the value
none_held : (test : Op → Bool) (v : Value) (old : Option Op) (at : Op → Edge) (edge : Edge) → op_if_of_value test v old ≡ None → IfSome (op_if_of_value test v old) (λ op. at op ≢ edge)
none_held test v old at edge none = subst (λ (o : Option Op). IfSome o (λ op. at op ≢ edge)) (sym none) tt

-- the edges of the reads
module _ (before : List Op) (old new : Option Op) (after : List Op) (change : IsChange before old new after) (v : Value) where
  pub begin_same : (edge : Edge) → IfSome (read_part v old) (λ op. At op.begin ≢ edge) → read_part v new ≡ None → IsGreatestBegin IsJudgedRead before v edge → IsGreatestBegin IsJudgedRead after v edge
  begin_same edge still none is = same_begin is_judged_read before old new after change v (λ ops. in_judged-read ops v) edge still none is

  pub begin_more : (edge : Edge) → IfSome (read_part v old) (λ op. At op.begin ≢ edge) → (r : Op) → read_part v new ≡ Some r → IsGreatestBegin IsJudgedRead before v edge → IsGreatestBegin IsJudgedRead after v (later_edge edge (At r.begin))
  begin_more edge still r comes is = more_begin is_judged_read before old new after change v (λ ops. in_judged-read ops v) edge still r comes is

  pub end_same : (edge : Edge) → IfSome (read_part v old) (λ op. edge_of_end op.end ≢ edge) → read_part v new ≡ None → IsLeastEnd IsJudgedRead before v edge → IsLeastEnd IsJudgedRead after v edge
  end_same edge still none is = same_end is_judged_read before old new after change v (λ ops. in_judged-read ops v) edge still none is

  pub end_more : (edge : Edge) → IfSome (read_part v old) (λ op. edge_of_end op.end ≢ edge) → (r : Op) → read_part v new ≡ Some r → IsLeastEnd IsJudgedRead before v edge → IsLeastEnd IsJudgedRead after v (earlier_edge edge (edge_of_end r.end))
  end_more edge still r comes is = more_end is_judged_read before old new after change v (λ ops. in_judged-read ops v) edge still r comes is

-- the edges of a value's one write
pub edges_of_write : (ops : List Op) (v : Value) (w : Op) → IsTheWriteAt ops v w → ((a b : Op) → IsTheWriteAt ops v a → IsTheWriteAt ops v b → a ≡ b) → AreWriteEdges ops v (At w.begin) (edge_of_end w.end)
edges_of_write ops v w is one = record {
  begin = record {
    greatest = all_from (λ op. IsWrite op → value_of op.act ≡ v → AtMost (At op.begin) (At w.begin)) ops (λ op h t e. subst (λ (x : Op). AtMost (At x.begin) (At w.begin)) (same op h t e) (at_most_itself (At w.begin)));
    held = inr (w, is.present, is.write, is.same, refl);
  };
  end = record {
    least = all_from (λ op. IsWrite op → value_of op.act ≡ v → AtMost (edge_of_end w.end) (edge_of_end op.end)) ops (λ op h t e. subst (λ (x : Op). AtMost (edge_of_end w.end) (edge_of_end x.end)) (same op h t e) (at_most_itself (edge_of_end w.end)));
    held = inr (w, is.present, is.write, is.same, refl);
  };
  one = one;
}
  where
    same : (op : Op) → Contains ops op → IsWrite op → value_of op.act ≡ v → w ≡ op
    same op h t e = one w op is (record { present = h; write = t; same = e })

pub edges_of_none : (ops : List Op) (v : Value) → HasNoWrite ops v → AreWriteEdges ops v Before Never
edges_of_none ops v none = record {
  begin = none_begins ops v IsWrite none;
  end = none_ends ops v IsWrite none;
  one = λ a b is_a is_b. absurd (All-contains (λ w. IsWrite w → value_of w.act ≢ v) ops a none is_a.present is_a.write is_a.same);
}

-- a judged operation that is a write of the value is the write of the value
pub known_write : (ops : List Op) (known : Option Op) (v : Value) (w : Op) → IfSome known (λ op. Contains (judged ops) op) → write_part v known ≡ Some w → IsTheWriteAt ops v w
known_write ops known v w present is =
    let (e, t, s) = passed is_write v known w is in
    let h : IfSome (Some w) (λ op. Contains (judged ops) op) = subst (λ (n : Option Op). IfSome n (λ op. Contains (judged ops) op)) e present in
    record { present = (kept_present is_judged ops w h).0; write = t; same = s }

-- the edges of the writes
module _ (before : List Op) (old new : Option Op) (after : List Op) (change : IsChange before old new after) (v : Value) where
  one_after : (a b : Op) → IsTheWriteAt after v a → IsTheWriteAt after v b → a ≡ b
  one_after a b is_a is_b =
      change.apart_after.by_value a b (in_judged-write after v a is_a.present is_a.write) (in_judged-write after v b is_b.present is_b.write) (is_a.same ∙ sym is_b.same) is_a.write is_b.write

  pub write_came : (w : Op) → write_part v new ≡ Some w → AreWriteEdges after v (At w.begin) (edge_of_end w.end)
  write_came w is = edges_of_write after v w (known_write after new v w change.comes is) one_after

  pub named_came : (w : Op) → write_part v new ≡ Some w → NamesWrite after v (Some w.id)
  named_came w is = (w, known_write after new v w change.comes is, refl)

  pub named_went : (w : Op) → write_part v new ≡ None → write_part v old ≡ Some w → NamesWrite after v None
  named_went w none is = no_write after v (λ x is_x. by_place x is_x (change.stood x (in_judged-write after v x is_x.present is_x.write)))
    where
      is_w : IsTheWriteAt before v w
      is_w = known_write before old v w change.goes is

      by_place : (x : Op) → IsTheWriteAt after v x → (new ≡ Some x) ⊎ (Contains (judged before) x × (old ≢ Some x)) → ⊥
      by_place x is_x (inl e) = not_new is_write before old new after change v (λ ops. in_judged-write ops v) none x is_x.write is_x.same e
      by_place x is_x (inr (h, n)) =
          let same : w ≡ x = change.apart_before.by_value w x (in_judged-write before v w is_w.present is_w.write) h (is_w.same ∙ sym is_x.same) is_w.write is_x.write in
          n ((passed is_write v old w is).0 ∙ ap Some same)

  pub write_went : (w : Op) → write_part v new ≡ None → write_part v old ≡ Some w → AreWriteEdges after v Before Never
  write_went w none is = edges_of_none after v (named_went w none is)

  pub named_same : (name : Option OpId) → write_part v new ≡ None → write_part v old ≡ None → NamesWrite before v name → NamesWrite after v name
  named_same None none still is = no_write after v (λ x is_x. by_place x is_x (stood is_write before old new after change v (λ ops. in_judged-write ops v) x is_x.present is_x.write))
    where
      by_place : (x : Op) → IsTheWriteAt after v x → (new ≡ Some x) ⊎ Contains before x → ⊥
      by_place x is_x (inl e) = not_new is_write before old new after change v (λ ops. in_judged-write ops v) none x is_x.write is_x.same e
      by_place x is_x (inr h) = All-contains (λ w. IsWrite w → value_of w.act ≢ v) before x is h is_x.write is_x.same
  named_same (Some id) none still (w, is, named) = (w, record { present = stayed is_write before old new after change v (λ ops. in_judged-write ops v) w is.present is.write other; write = is.write; same = is.same }, named)
    where
      other : old ≢ Some w
      other e = absurd (let g : Some w ≡ None = sym (passes is_write v w is.write is.same) ∙ (ap (op_if_of_value is_write v) (sym e) ∙ still) in cc)

  pub write_same : (begin end : Edge) → write_part v new ≡ None → write_part v old ≡ None → AreWriteEdges before v begin end → AreWriteEdges after v begin end
  write_same begin end none still are = record {
    begin = same_begin is_write before old new after change v (λ ops. in_judged-write ops v) begin (none_held is_write v old (λ op. At op.begin) begin still) none are.begin;
    end = same_end is_write before old new after change v (λ ops. in_judged-write ops v) end (none_held is_write v old (λ op. edge_of_end op.end) end still) none are.end;
    one = one_after;
  }

-- nothing is kept of an operation of another value
part_of_other : (test : Op → Bool) (v : Value) (found : Option Op) → IfSome found (λ op. value_of op.act ≢ v) → op_if_of_value test v found ≡ None
part_of_other test v None other = refl
part_of_other test v (Some op) other = by_cases (test op) (same_value (value_of op.act) v) refl
  where
    by_cases : (t s : Bool) → same_value (value_of op.act) v ≡ s → cond (t && s) (Some op) None ≡ None
    by_cases t true e = absurd (other ((Decides-same_value (value_of op.act) v).0 e))
    by_cases true false e = refl
    by_cases false false e = refl

-- other values keep their edges
pub edges_elsewhere : (before : List Op) (old new : Option Op) (after : List Op) → IsChange before old new after → (v : Value) (edges : Edges)
    → IfSome old (λ op. value_of op.act ≢ v) → IfSome new (λ op. value_of op.act ≢ v) → AreEdges before v edges → AreEdges after v edges
edges_elsewhere before old new after change v edges not_old not_new are = record {
  same = are.same;
  named = named_same before old new after change v edges.write_id (part_of_other is_write v new not_new) (part_of_other is_write v old not_old) are.named;
  write = write_same before old new after change v edges.write_begin edges.write_end (part_of_other is_write v new not_new) (part_of_other is_write v old not_old) are.write;
  read = record {
    begin = begin_same before old new after change v edges.read_begin (none_held is_judged_read v old (λ op. At op.begin) edges.read_begin (part_of_other is_judged_read v old not_old)) (part_of_other is_judged_read v new not_new) are.read.begin;
    end = end_same before old new after change v edges.read_end (none_held is_judged_read v old (λ op. edge_of_end op.end) edges.read_end (part_of_other is_judged_read v old not_old)) (part_of_other is_judged_read v new not_new) are.read.end;
  };
}

-- an operation begins at the edge where that is not `Before`
module _ (P : Op → Type 0) (ops : List Op) (v : Value) (edge : Edge) (is : IsGreatestBegin P ops v edge) where
  pub begun : ComesBefore Before edge → (op : Op) × Contains ops op × P op × (value_of op.act ≡ v) × (At op.begin ≡ edge)
  begun h = by_cases is.held
    where
      by_cases : (edge ≡ Before) ⊎ ((op : Op) × Contains ops op × P op × (value_of op.act ≡ v) × (At op.begin ≡ edge)) → (op : Op) × Contains ops op × P op × (value_of op.act ≡ v) × (At op.begin ≡ edge)
      by_cases (inl e) = absurd (let k : ComesBefore Before Before = subst (ComesBefore Before) e h in cc)
      by_cases (inr found) = found

  pub has_begun : (op : Op) → Contains ops op → P op → value_of op.act ≡ v → ComesBefore Before edge
  has_begun op h p e = by_edge edge (All-contains (λ op. P op → value_of op.act ≡ v → AtMost (At op.begin) edge) ops op is.greatest h p e)
    where
      by_edge : (x : Edge) → AtMost (At op.begin) x → ComesBefore Before x
      by_edge Before k = absurd (k refl)
      by_edge (At m) k = refl
      by_edge Never k = refl

-- a value has a write where a write of it has begun
pub written_by_edge : (ops : List Op) (v : Value) (begin end : Edge) → AreWriteEdges ops v begin end → ComesBefore Before begin ↔ HasWrite ops v
written_by_edge ops v begin end are = (
  (λ h. let (w, k, t, s, f) = begun IsWrite ops v begin are.begin h in (w, record { present = k; write = t; same = s })),
  (λ (w, is). has_begun IsWrite ops v begin are.begin w is.present is.write is.same),
)

-- the first end of the reads, by their edges
pub first_end_by_edge : (ops : List Op) (v : Value) (begin end : Edge) → AreReadEdges ops v begin end → first_end_of ops v ≡ end
first_end_by_edge ops v begin end are = at_most_both (first_end_of ops v) end (by_edge are.end.held) (by_first (first_held ops v))
  where
    by_edge : (end ≡ Never) ⊎ ((op : Op) × Contains ops op × IsJudgedRead op × (value_of op.act ≡ v) × (edge_of_end op.end ≡ end)) → AtMost (first_end_of ops v) end
    by_edge (inl e) = subst (AtMost (first_end_of ops v)) (sym e) (never_last (first_end_of ops v))
    by_edge (inr (op, h, j, s, f)) = subst (AtMost (first_end_of ops v)) f (first_at_most ops v op (h, j, s))

    by_first : (first_end_of ops v ≡ Never) ⊎ ((r : Op) × (Contains ops r × IsJudgedRead r × (value_of r.act ≡ v)) × (edge_of_end r.end ≡ first_end_of ops v)) → AtMost end (first_end_of ops v)
    by_first (inl e) = subst (AtMost end) (sym e) (never_last end)
    by_first (inr (r, (h, j, s), f)) = subst (AtMost end) f (All-contains (λ op. IsJudgedRead op → value_of op.act ≡ v → AtMost end (edge_of_end op.end)) ops r are.end.least h j s)

-- where the write begins, by its edges
module _ (ops : List Op) (v : Value) (begin end : Edge) (are : AreWriteEdges ops v begin end) where
  pub begin_by_edge : ComesBefore Before begin → begin ≡ begin_of_write (write_of ops v)
  begin_by_edge h =
      let (w, k, t, s, f) = begun IsWrite ops v begin are.begin h in
      let is : IsTheWriteAt ops v w = record { present = k; write = t; same = s } in
      sym f ∙ sym (at_write ops v w is (λ x is_x. are.one x w is_x is)).0

  pub begin_by_none : ¬ ComesBefore Before begin → Never ≡ begin_of_write (write_of ops v)
  begin_by_none n = sym (never_written ops v (no_write ops v (λ w is. n (has_begun IsWrite ops v begin are.begin w is.present is.write is.same)))).0

-- edges are those of the value that they have
pub at_itself : (ops : List Op) (v : Value) (edges : Edges) → AreEdges ops v edges → AreEdges ops edges.value edges
at_itself ops v edges are = subst (λ (u : Value). AreEdges ops u edges) (sym are.same) are

-- the stretch of a value, by its edges
module _ (claim : ClaimModel) (ops : List Op) (v : Value) where
  read_by_end : (end : Moment) → first_end_of ops v ≡ At end → IsRead ops v
  read_by_end end is = by_cases (first_held ops v)
    where
      by_cases : IsHeld ops v → IsRead ops v
      by_cases (inl e) = absurd (let f : Never ≡ At end = sym e ∙ is in cc)
      by_cases (inr (r, (h, j, s), e)) = (r, h, j, s)

  written_is : (t : Bool) → IsTrue t ↔ HasWrite ops v → t ≡ written ops v
  written_is t is = by_cases t is (begin_cases ops v)
    where
      by_cases : (t : Bool) → IsTrue t ↔ HasWrite ops v → BeginCases ops v → t ≡ written ops v
      by_cases true is (inl (w, at, e, f)) = sym f
      by_cases false is (inl (w, at, e, f)) = absurd (let g : false ≡ true = is.1 (w, at) in cc)
      by_cases true is (inr (none, e, f)) = let (w, at) = is.0 refl in absurd (no_write_at ops v none w at)
      by_cases false is (inr (none, e, f)) = sym f

  pub stretch_by_edge : (end : Moment) → first_end_of ops v ≡ At end → (at : Edge) → at ≡ begin_of_write (write_of ops v) → ComesBefore (At end) at → ¬ IsInitial claim v
      → (t : Bool) → IsTrue t ↔ HasWrite ops v → IsStretchAt claim ops v (Some (record { end = end; written = t; value = v }))
  stretch_by_edge end first at at_is before not_initial t is = record {
    stretch =
        ap {B = Stretch} (λ (m : Edge). record { end = edge_moment m; written = t; value = v }) (sym first)
        ∙ ap {B = Stretch} (λ (t : Bool). record { end = edge_moment (first_end_of ops v); written = t; value = v }) (written_is t is);
    none = λ n. absurd (cc);
    some = λ n. record {
      read = read_by_end end first;
      not_initial = not_initial;
      before = subst (λ (x : Edge). ComesBefore x (begin_of_write (write_of ops v))) (sym first) (subst (ComesBefore (At end)) at_is before);
    };
  }

  pub no_stretch : ¬ IsAtFault claim ops v → IsStretchAt claim ops v None
  no_stretch none = record { stretch = tt; none = λ e. none; some = λ some. absurd (cc) }

  -- a value at fault has a first end
  pub ends_at_fault : (begin end : Edge) → AreReadEdges ops v begin end → IsAtFault claim ops v → (m : Moment) × (end ≡ At m)
  ends_at_fault begin end are fault =
      let (m, id, is) = first_of_reads ops v fault.read in
      (m, sym (first_end_by_edge ops v begin end are) ∙ first_end_is ops v m id is)

-- a zone is found where a write has the value
pub found_where_written : (ops : List Op) (v : Value) (found : Option Zone) → IsZoneAt ops v found → IsSome found ↔ HasWrite ops v
found_where_written ops v None is = (is.some, λ h. absurd (is.none refl h))
found_where_written ops v (Some zone) is = (is.some, λ h. refl)
