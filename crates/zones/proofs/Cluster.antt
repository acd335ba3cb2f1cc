-- The cluster of a value: its edges are those of its members, and where two zones conflict four members cross.
use Rattle.std.proofs.Common.{◌≡◌, ◌≢◌, ◌↔◌, ◌⊎◌, inl, inr, true, List, [], ◌∷◌, Option, Some, None, refl, sym, ap, subst, ◌∙◌}
use Rattle.std.specs.Prelude.{Contains, map}
use Rattle.std.specs.List.{AllPairs}
use Rattle.std.proofs.lemmas.Bool.{cond_both, both_ways, lt-ltb, ltb-true}
use Rattle.std.proofs.lemmas.List.Elements.{All-cons, All-map}
use Rattle.intervals.specs.declared.operation.Op.{Op}
use Rattle.intervals.specs.declared.operation.Moment.{Moment}
use Rattle.intervals.specs.declared.operation.Value.{Value}
use Rattle.intervals.specs.Operation.{EndsBefore, is_write, value_of, same_value, judged, writes}
use Rattle.intervals.specs.Standing.{IsMomentOf, ShareNoMoment, HasDistinctMoments}
use Rattle.zone_tree.specs.declared.edge.Edge.{Edge}
use Rattle.zone_tree.specs.declared.edge.Edge.TheVariants.{Before, At, Never}
use Rattle.zone_tree.specs.declared.zone.Zone.{Zone}
use Rattle.zone_tree.specs.Edge.{ComesBefore, earlier_edge, edge_before, later_edge}
use Rattle.zone_tree.specs.Zone.{Conflicts, HasOrderedEdges, least_end, greatest_begin}
use Rattle.zones.specs.Cluster.{Interval, edge_of_end, interval_of, initial_span, has_value, cluster_of, spans_of, least_end_in, greatest_begin_in, least_end_of, greatest_begin_of, zone_between, zone_of, written_values, zones_of}
use Rattle.zones.specs.Crossing.{value_at, StandsJudged, HasEndedBefore, IsCrossing, HasLeastEnd, HasGreatestBegin, AreExtremes}
use Rattle.zones.proofs.EdgeOrder.{AtMost, at_most_itself, at_most_transitive, at_most_both, before_all, before_not_after, not_after_before, not_both_ways, earlier-left, earlier-right, earlier-cases, later-left, later-right, later-cases}
use Rattle.zones.proofs.Judged.{is_judged, judged_write}
use Rattle.zones.proofs.Members.{Decides-same_value, value_cases, here, there, in_none, contains_cases, kept, kept_present, all_from, mapped, pair_of, pairs_mapped}

-- the least end and the greatest beginning of intervals
pub least-bound : (spans : List Interval) (s : Interval) → Contains spans s → AtMost (least_end_in spans) s.end
least-bound [] s h = absurd (in_none s h)
least-bound (a ∷ spans) s h = by_cases (contains_cases a spans s h) (least-bound spans s)
  where
    by_cases : (a ≡ s) ⊎ Contains spans s → (Contains spans s → AtMost (least_end_in spans) s.end) → AtMost (earlier_edge a.end (least_end_in spans)) s.end
    by_cases (inl e) rest = subst (λ (x : Interval). AtMost (earlier_edge a.end (least_end_in spans)) x.end) e (earlier-left a.end (least_end_in spans))
    by_cases (inr h) rest = at_most_transitive (earlier_edge a.end (least_end_in spans)) (least_end_in spans) s.end (earlier-right a.end (least_end_in spans)) (rest h)

greatest-bound : (spans : List Interval) (s : Interval) → Contains spans s → AtMost s.begin (greatest_begin_in spans)
greatest-bound [] s h = absurd (in_none s h)
greatest-bound (a ∷ spans) s h = by_cases (contains_cases a spans s h) (greatest-bound spans s)
  where
    by_cases : (a ≡ s) ⊎ Contains spans s → (Contains spans s → AtMost s.begin (greatest_begin_in spans)) → AtMost s.begin (later_edge a.begin (greatest_begin_in spans))
    by_cases (inl e) rest = subst (λ (x : Interval). AtMost x.begin (later_edge a.begin (greatest_begin_in spans))) e (later-left a.begin (greatest_begin_in spans))
    by_cases (inr h) rest = at_most_transitive s.begin (greatest_begin_in spans) (later_edge a.begin (greatest_begin_in spans)) (rest h) (later-right a.begin (greatest_begin_in spans))

pub least-held : (spans : List Interval) → (least_end_in spans ≡ Never) ⊎ ((s : Interval) × Contains spans s × (s.end ≡ least_end_in spans))
least-held [] = inl refl
least-held (a ∷ spans) = by_cases (earlier-cases a.end (least_end_in spans)) (least-held spans)
  where
    by_cases : (a.end ≡ least_end_in (a ∷ spans)) ⊎ (least_end_in spans ≡ least_end_in (a ∷ spans)) → (least_end_in spans ≡ Never) ⊎ ((s : Interval) × Contains spans s × (s.end ≡ least_end_in spans)) → (least_end_in (a ∷ spans) ≡ Never) ⊎ ((s : Interval) × Contains (a ∷ spans) s × (s.end ≡ least_end_in (a ∷ spans)))
    by_cases (inl e) rest = inr (a, here a spans, e)
    by_cases (inr e) (inl n) = inl (sym e ∙ n)
    by_cases (inr e) (inr (s, h, f)) = inr (s, there a spans s h, f ∙ e)

greatest-held : (spans : List Interval) → (greatest_begin_in spans ≡ Before) ⊎ ((s : Interval) × Contains spans s × (s.begin ≡ greatest_begin_in spans))
greatest-held [] = inl refl
greatest-held (a ∷ spans) = by_cases (later-cases a.begin (greatest_begin_in spans)) (greatest-held spans)
  where
    by_cases : (a.begin ≡ greatest_begin_in (a ∷ spans)) ⊎ (greatest_begin_in spans ≡ greatest_begin_in (a ∷ spans)) → (greatest_begin_in spans ≡ Before) ⊎ ((s : Interval) × Contains spans s × (s.begin ≡ greatest_begin_in spans)) → (greatest_begin_in (a ∷ spans) ≡ Before) ⊎ ((s : Interval) × Contains (a ∷ spans) s × (s.begin ≡ greatest_begin_in (a ∷ spans)))
    by_cases (inl e) rest = inr (a, here a spans, e)
    by_cases (inr e) (inl n) = inl (sym e ∙ n)
    by_cases (inr e) (inr (s, h, f)) = inr (s, there a spans s h, f ∙ e)

-- the edges of a zone between two edges
least_end-between : (m M : Edge) (v : Value) → least_end (zone_between m M v) ≡ m
least_end-between m M v = cond_both (edge_before m M) _ _ (λ (z : Zone). least_end z ≡ m) (λ p. refl) (λ f. refl)

greatest_begin-between : (m M : Edge) (v : Value) → greatest_begin (zone_between m M v) ≡ M
greatest_begin-between m M v = cond_both (edge_before m M) _ _ (λ (z : Zone). greatest_begin z ≡ M) (λ p. refl) (λ f. refl)

value-between : (m M : Edge) (v : Value) → (zone_between m M v).value ≡ v
value-between m M v = cond_both (edge_before m M) _ _ (λ (z : Zone). z.value ≡ v) (λ p. refl) (λ f. refl)

left-least : (m M : Edge) (v : Value) → AtMost (zone_between m M v).left m
left-least m M v = cond_both (edge_before m M) _ _ (λ (z : Zone). AtMost z.left m) (λ p. at_most_itself m) (λ f. both_ways (edge_before m M) f)

left-greatest : (m M : Edge) (v : Value) → AtMost (zone_between m M v).left M
left-greatest m M v = cond_both (edge_before m M) _ _ (λ (z : Zone). AtMost z.left M) (λ p. not_both_ways m M p) (λ f. at_most_itself M)

left-cases : (m M : Edge) (v : Value) → (((zone_between m M v).left ≡ m) × ComesBefore m M) ⊎ ((zone_between m M v).left ≡ M)
left-cases m M v = cond_both (edge_before m M) _ _ (λ (z : Zone). ((z.left ≡ m) × ComesBefore m M) ⊎ (z.left ≡ M)) (λ p. inl (refl, p)) (λ f. inr refl)

ordered-between : (m M : Edge) (v : Value) → HasOrderedEdges (zone_between m M v)
ordered-between m M v = cond_both (edge_before m M) _ _ HasOrderedEdges (λ p. (λ t. p, λ n. absurd (n refl))) (λ f. (λ t. absurd (cc), λ n. both_ways (edge_before m M) f))

conflict_at : (a b : Zone) (m M n N : Edge) → least_end a ≡ m → greatest_begin a ≡ M → least_end b ≡ n → greatest_begin b ≡ N → (Conflicts a b → ComesBefore m N × ComesBefore n M) × (ComesBefore m N × ComesBefore n M → Conflicts a b)
conflict_at a b m M n N e f g h = (
  (λ c. (rw (e, h) at c.0, rw (g, f) at c.1)),
  (λ c. (rw (e, h) c.0, rw (g, f) c.1)),
)

-- the end of an operation that ends before a moment
pub edge_from_end : (end : Option Moment) (m : Moment) → EndsBefore end m → ComesBefore (edge_of_end end) (At m)
edge_from_end None m h = absurd h
edge_from_end (Some end) m h = lt-ltb end.0 m.0 h

pub end_from_edge : (end : Option Moment) (m : Moment) → ComesBefore (edge_of_end end) (At m) → EndsBefore end m
end_from_edge None m h = absurd (cc)
end_from_edge (Some end) m h = ltb-true end.0 m.0 h

module _ (initial : Value) (ops : List Op) where
  -- a judged operation of the value
  abbrev pub IsMember : Value → Op → Type 0
  IsMember v op = Contains (judged ops) op × (value_of op.act ≡ v)

  abbrev least : Value → Edge
  least v = least_end_of initial ops v

  abbrev greatest : Value → Edge
  greatest v = greatest_begin_of initial ops v

  abbrev pub left : Value → Edge
  left v = (zone_of initial ops v).left

  in_cluster : (v : Value) (op : Op) → IsMember v op → Contains (cluster_of ops v) op
  in_cluster v op (h, e) = kept (has_value v) (judged ops) op h ((Decides-same_value (value_of op.act) v).1 e)

  span_present : (v : Value) (op : Op) → IsMember v op → Contains (spans_of initial ops v) (interval_of op)
  span_present v op h =
      let k = mapped interval_of (cluster_of ops v) op (in_cluster v op h) in
      cond_both (same_value initial v) _ _ (λ (l : List Interval). Contains l (interval_of op)) (λ t. there initial_span (map interval_of (cluster_of ops v)) (interval_of op) k) (λ f. k)

  -- the least end is at most each member's end
  pub least_at_most : (v : Value) (op : Op) → IsMember v op → AtMost (least v) (edge_of_end op.end)
  least_at_most v op h = least-bound (spans_of initial ops v) (interval_of op) (span_present v op h)

  pub greatest_at_least : (v : Value) (op : Op) → IsMember v op → AtMost (At op.begin) (greatest v)
  greatest_at_least v op h = greatest-bound (spans_of initial ops v) (interval_of op) (span_present v op h)

  -- an interval of a cluster is the initial write's or a member's
  abbrev IsSpanOf : Value → Interval → Type 0
  IsSpanOf v s = ((s ≡ initial_span) × (v ≡ initial)) ⊎ ((op : Op) × IsMember v op × (interval_of op ≡ s))

  from_map : (v : Value) (members : List Op) (s : Interval) → ((op : Op) → Contains members op → IsMember v op) → Contains (map interval_of members) s → (op : Op) × IsMember v op × (interval_of op ≡ s)
  from_map v [] s each h = absurd (in_none s h)
  from_map v (a ∷ members) s each h = by_cases (contains_cases (interval_of a) (map interval_of members) s h) (from_map v members s (λ op k. each op (there a members op k)))
    where
      by_cases : (interval_of a ≡ s) ⊎ Contains (map interval_of members) s → (Contains (map interval_of members) s → (op : Op) × IsMember v op × (interval_of op ≡ s)) → (op : Op) × IsMember v op × (interval_of op ≡ s)
      by_cases (inl e) rest = (a, each a (here a members), e)
      by_cases (inr h) rest = rest h

  pub member_of : (v : Value) (op : Op) → Contains (cluster_of ops v) op → IsMember v op
  member_of v op h = let k = kept_present (has_value v) (judged ops) op h in (k.0, (Decides-same_value (value_of op.act) v).0 k.1)

  span_from : (v : Value) (s : Interval) → Contains (spans_of initial ops v) s → IsSpanOf v s
  span_from v s = cond_both (same_value initial v) _ _ (λ (l : List Interval). Contains l s → IsSpanOf v s) with_initial (λ f h. inr (from_map v (cluster_of ops v) s (member_of v) h))
    where
      by_cases : initial ≡ v → (initial_span ≡ s) ⊎ Contains (map interval_of (cluster_of ops v)) s → IsSpanOf v s
      by_cases e (inl g) = inl (sym g, sym e)
      by_cases e (inr h) = inr (from_map v (cluster_of ops v) s (member_of v) h)

      with_initial : same_value initial v ≡ true → Contains (initial_span ∷ map interval_of (cluster_of ops v)) s → IsSpanOf v s
      with_initial t h = by_cases ((Decides-same_value initial v).0 t) (contains_cases initial_span (map interval_of (cluster_of ops v)) s h)

  -- the least end is that of a member or of the initial write, or never comes
  pub least_held : (v : Value) → (least v ≡ Never) ⊎ (((least v ≡ Before) × (v ≡ initial)) ⊎ ((op : Op) × IsMember v op × (edge_of_end op.end ≡ least v)))
  least_held v = by_cases (least-held (spans_of initial ops v))
    where
      by_span : (s : Interval) → s.end ≡ least v → IsSpanOf v s → (least v ≡ Never) ⊎ (((least v ≡ Before) × (v ≡ initial)) ⊎ ((op : Op) × IsMember v op × (edge_of_end op.end ≡ least v)))
      by_span s e (inl (g, i)) = inr (inl (sym e ∙ ap (λ (x : Interval). x.end) g, i))
      by_span s e (inr (op, h, g)) = inr (inr (op, h, ap (λ (x : Interval). x.end) g ∙ e))

      by_cases : (least v ≡ Never) ⊎ ((s : Interval) × Contains (spans_of initial ops v) s × (s.end ≡ least v)) → (least v ≡ Never) ⊎ (((least v ≡ Before) × (v ≡ initial)) ⊎ ((op : Op) × IsMember v op × (edge_of_end op.end ≡ least v)))
      by_cases (inl e) = inl e
      by_cases (inr (s, h, e)) = by_span s e (span_from v s h)

  pub greatest_held : (v : Value) → (greatest v ≡ Before) ⊎ ((op : Op) × IsMember v op × (At op.begin ≡ greatest v))
  greatest_held v = by_cases (greatest-held (spans_of initial ops v))
    where
      by_span : (s : Interval) → s.begin ≡ greatest v → IsSpanOf v s → (greatest v ≡ Before) ⊎ ((op : Op) × IsMember v op × (At op.begin ≡ greatest v))
      by_span s e (inl (g, i)) = inl (sym e ∙ ap (λ (x : Interval). x.begin) g)
      by_span s e (inr (op, h, g)) = inr (op, h, ap (λ (x : Interval). x.begin) g ∙ e)

      by_cases : (greatest v ≡ Before) ⊎ ((s : Interval) × Contains (spans_of initial ops v) s × (s.begin ≡ greatest v)) → (greatest v ≡ Before) ⊎ ((op : Op) × IsMember v op × (At op.begin ≡ greatest v))
      by_cases (inl e) = inl e
      by_cases (inr (s, h, e)) = by_span s e (span_from v s h)

  -- the members by the cluster itself
  pub members_of : (v : Value) (op : Op) → Contains (cluster_of ops v) op ↔ (Contains (judged ops) op × (value_of op.act ≡ v))
  members_of v op = (member_of v op, λ h. in_cluster v op h)

  pub least_of_one : (v : Value) → v ≢ initial → (least v ≡ Never) ⊎ ((op : Op) × Contains (cluster_of ops v) op × (edge_of_end op.end ≡ least v))
  least_of_one v n = by_cases (least_held v)
    where
      by_cases : (least v ≡ Never) ⊎ (((least v ≡ Before) × (v ≡ initial)) ⊎ ((op : Op) × IsMember v op × (edge_of_end op.end ≡ least v))) → (least v ≡ Never) ⊎ ((op : Op) × Contains (cluster_of ops v) op × (edge_of_end op.end ≡ least v))
      by_cases (inl e) = inl e
      by_cases (inr (inl (e, i))) = absurd (n i)
      by_cases (inr (inr (op, h, e))) = inr (op, in_cluster v op h, e)

  pub greatest_of_one : (v : Value) → (greatest v ≡ Before) ⊎ ((op : Op) × Contains (cluster_of ops v) op × (At op.begin ≡ greatest v))
  greatest_of_one v = by_cases (greatest_held v)
    where
      by_cases : (greatest v ≡ Before) ⊎ ((op : Op) × IsMember v op × (At op.begin ≡ greatest v)) → (greatest v ≡ Before) ⊎ ((op : Op) × Contains (cluster_of ops v) op × (At op.begin ≡ greatest v))
      by_cases (inl e) = inl e
      by_cases (inr (op, h, e)) = inr (op, in_cluster v op h, e)

  initial_present : Contains (spans_of initial ops initial) initial_span
  initial_present = cond_both (same_value initial initial) _ _ (λ (l : List Interval). Contains l initial_span) (λ t. here initial_span _) (λ f. absurd (both_ways (same_value initial initial) f ((Decides-same_value initial initial).1 refl)))

  -- the initial write ends before every moment
  pub least_initial : least initial ≡ Before
  least_initial = at_most_both (least initial) Before (least-bound (spans_of initial ops initial) initial_span initial_present) (before_all (least initial))

  -- the zone of the initial value begins before every moment
  pub left_initial : left initial ≡ Before
  left_initial =
      at_most_both (left initial) Before
      (at_most_transitive (left initial) (least initial) Before
      (left-least (least initial) (greatest initial) initial)
      (least-bound (spans_of initial ops initial) initial_span initial_present))
      (before_all (left initial))

  pub left_at_most_least : (v : Value) → AtMost (left v) (least v)
  left_at_most_least v = left-least (least v) (greatest v) v

  pub left_at_most_greatest : (v : Value) → AtMost (left v) (greatest v)
  left_at_most_greatest v = left-greatest (least v) (greatest v) v

  pub left_is : (v : Value) → ((left v ≡ least v) × ComesBefore (least v) (greatest v)) ⊎ (left v ≡ greatest v)
  left_is v = left-cases (least v) (greatest v) v

  pub value_is : (v : Value) → (zone_of initial ops v).value ≡ v
  value_is v = value-between (least v) (greatest v) v

  -- when the zones of two values conflict, by their edges
  pub conflict_is : (u v : Value) → (Conflicts (zone_of initial ops u) (zone_of initial ops v) → ComesBefore (least u) (greatest v) × ComesBefore (least v) (greatest u)) × (ComesBefore (least u) (greatest v) × ComesBefore (least v) (greatest u) → Conflicts (zone_of initial ops u) (zone_of initial ops v))
  conflict_is u v =
      conflict_at (zone_of initial ops u) (zone_of initial ops v) (least u) (greatest u) (least v) (greatest v)
      (least_end-between (least u) (greatest u) u) (greatest_begin-between (least u) (greatest u) u)
      (least_end-between (least v) (greatest v) v) (greatest_begin-between (least v) (greatest v) v)

  -- the edge is the initial write's, or one of a member's moments
  abbrev pub EdgeIn : Value → Edge → Type 0
  EdgeIn v Before = v ≡ initial
  EdgeIn v (At m) = (op : Op) × IsMember v op × IsMomentOf op m
  EdgeIn v Never = ⊥

  -- the left edge of a zone whose value some operation has
  pub left_in : (v : Value) (op : Op) → IsMember v op → EdgeIn v (left v)
  left_in v op h = by_left (left_is v)
    where
      by_greatest : (greatest v ≡ Before) ⊎ ((b : Op) × IsMember v b × (At b.begin ≡ greatest v)) → EdgeIn v (greatest v)
      by_greatest (inl e) = absurd (subst (λ (x : Edge). AtMost (At op.begin) x) e (greatest_at_least v op h) refl)
      by_greatest (inr (b, k, e)) = subst (EdgeIn v) e (b, k, inl refl)

      by_end : (a : Op) → IsMember v a → (end : Option Moment) → a.end ≡ end → edge_of_end end ≡ least v → ComesBefore (least v) (greatest v) → EdgeIn v (least v)
      by_end a k None e f p = absurd (let q : ComesBefore Never (greatest v) = subst (λ (x : Edge). ComesBefore x (greatest v)) (sym f) p in cc)
      by_end a k (Some end) e f p = subst (EdgeIn v) f (a, k, inr e)

      by_least : ComesBefore (least v) (greatest v) → (least v ≡ Never) ⊎ (((least v ≡ Before) × (v ≡ initial)) ⊎ ((a : Op) × IsMember v a × (edge_of_end a.end ≡ least v))) → EdgeIn v (least v)
      by_least p (inl e) = absurd (let q : ComesBefore Never (greatest v) = subst (λ (x : Edge). ComesBefore x (greatest v)) e p in cc)
      by_least p (inr (inl (e, i))) = subst (EdgeIn v) (sym e) i
      by_least p (inr (inr (a, k, e))) = by_end a k a.end refl e p

      by_left : ((left v ≡ least v) × ComesBefore (least v) (greatest v)) ⊎ (left v ≡ greatest v) → EdgeIn v (left v)
      by_left (inl (e, p)) = subst (EdgeIn v) (sym e) (by_least p (least_held v))
      by_left (inr e) = subst (EdgeIn v) (sym e) (by_greatest (greatest_held v))

  -- no edge is of two values
  pub settle : HasDistinctMoments ops → (u v : Value) (e : Edge) → EdgeIn u e → EdgeIn v e → u ≡ v
  settle moments u v Before i j = i ∙ sym j
  settle moments u v (At m) (a, (ha, ea), ma) (b, (hb, eb), mb) = by_cases (value_cases u v)
    where
      by_cases : (u ≡ v) ⊎ (u ≢ v) → u ≡ v
      by_cases (inl e) = e
      by_cases (inr n) =
          let apart : a ≢ b = λ e. n (sym ea ∙ (ap (λ (x : Op). value_of x.act) e ∙ eb)) in
          absurd (pair_of ShareNoMoment (λ x y s m p q. s m q p) ops moments a b (kept_present _ ops a ha).0 (kept_present _ ops b hb).0 apart m ma mb)
  settle moments u v Never i j = absurd i

  -- where the least end of one cluster comes before the greatest beginning of another, operations have these edges
  least_one : (u v : Value) → ComesBefore (least u) (greatest v) → (a : Option Op) × HasLeastEnd initial ops u a
  least_one u v p = by_least (least_held u)
    where
      by_least : (least u ≡ Never) ⊎ (((least u ≡ Before) × (u ≡ initial)) ⊎ ((a : Op) × IsMember u a × (edge_of_end a.end ≡ least u))) → (a : Option Op) × HasLeastEnd initial ops u a
      by_least (inl e) = absurd (let q : ComesBefore Never (greatest v) = subst (λ (x : Edge). ComesBefore x (greatest v)) e p in cc)
      by_least (inr (inl (e, i))) = (None, i)
      by_least (inr (inr (a, h, e))) = (Some a, (in_cluster u a h, e))

  greatest_one : (u v : Value) → ComesBefore (least u) (greatest v) → (b : Op) × HasGreatestBegin initial ops v b
  greatest_one u v p = by_greatest (greatest_of_one v)
    where
      by_greatest : (greatest v ≡ Before) ⊎ ((b : Op) × Contains (cluster_of ops v) b × (At b.begin ≡ greatest v)) → (b : Op) × HasGreatestBegin initial ops v b
      by_greatest (inl e) = absurd (before_all (least u) (subst (λ (x : Edge). ComesBefore (least u) x) e p))
      by_greatest (inr (b, h, e)) = (b, (h, e))

  least_present : (u : Value) (a : Option Op) → HasLeastEnd initial ops u a → StandsJudged ops a × (value_at initial a ≡ u)
  least_present u None h = (tt, sym h)
  least_present u (Some a) h = member_of u a h.0

  has_ended : (u v : Value) (a : Option Op) (b : Op) → ComesBefore (least u) (greatest v) → HasLeastEnd initial ops u a → HasGreatestBegin initial ops v b → HasEndedBefore a b
  has_ended u v None b p h k = tt
  has_ended u v (Some a) b p h k =
      end_from_edge a.end b.begin (subst (λ (x : Edge). ComesBefore (edge_of_end a.end) x) (sym k.1) (subst (λ (x : Edge). ComesBefore x (greatest v)) (sym h.1) p))

  -- the extremes of a conflict's clusters cross
  pub extremes_cross : (u v : Value) (a : Option Op) (b : Op) (c : Option Op) (d : Op) → u ≢ v → Conflicts (zone_of initial ops u) (zone_of initial ops v) → AreExtremes initial ops u v a b c d → IsCrossing initial ops a b c d
  extremes_cross u v a b c d n h x =
      let k = (conflict_is u v).0 h in
      let (a_present, one) = least_present u a x.a_least in
      let (b_present, b_other) = member_of v b x.b_greatest.0 in
      let (c_present, other) = least_present v c x.c_least in
      let (d_present, d_one) = member_of u d x.d_greatest.0 in
      record {
        a_present = a_present;
        b_present = b_present;
        c_present = c_present;
        d_present = d_present;
        one_value = one ∙ sym d_one;
        other_value = other ∙ sym b_other;
        apart = λ e. n (sym d_one ∙ (sym e ∙ b_other));
        a_before_b = has_ended u v a b k.0 x.a_least x.b_greatest;
        c_before_d = has_ended v u c d k.1 x.c_least x.d_greatest;
      }

  abbrev pub Extremes : Value → Value → Type 0
  Extremes u v = (a : Option Op) × (b : Op) × (c : Option Op) × (d : Op) × AreExtremes initial ops u v a b c d

  pub extremes_of : (u v : Value) → Conflicts (zone_of initial ops u) (zone_of initial ops v) → Extremes u v
  extremes_of u v h = let k = (conflict_is u v).0 h in by_each (least_one u v k.0) (greatest_one u v k.0) (least_one v u k.1) (greatest_one v u k.1)
    where
      by_each : ((a : Option Op) × HasLeastEnd initial ops u a) → ((b : Op) × HasGreatestBegin initial ops v b) → ((c : Option Op) × HasLeastEnd initial ops v c) → ((d : Op) × HasGreatestBegin initial ops u d) → Extremes u v
      by_each (a, ha) (b, hb) (c, hc) (d, hd) = (a, b, c, d, record { a_least = ha; b_greatest = hb; c_least = hc; d_greatest = hd })

  -- where the zones of two values conflict, four of their operations cross
  abbrev pub Cross : Value → Value → Type 0
  Cross u v = (a : Option Op) × (b : Op) × (c : Option Op) × (d : Op) × IsCrossing initial ops a b c d × (value_of d.act ≡ u) × (value_of b.act ≡ v)

  pub crossing_of : (u v : Value) → u ≢ v → Conflicts (zone_of initial ops u) (zone_of initial ops v) → Cross u v
  crossing_of u v n h = by_extremes (extremes_of u v h)
    where
      by_extremes : Extremes u v → Cross u v
      by_extremes (a, b, c, d, x) = (a, b, c, d, extremes_cross u v a b c d n h x, (member_of u d x.d_greatest.0).1, (member_of v b x.b_greatest.0).1)

  -- where an operation ends before another begins, its cluster's least end comes before the other's greatest beginning
  least_first : (a : Option Op) (b : Op) → StandsJudged ops a → Contains (judged ops) b → HasEndedBefore a b → ComesBefore (least (value_at initial a)) (greatest (value_of b.act))
  least_first None b h k p =
      before_not_after (least initial) (At b.begin) (greatest (value_of b.act))
      (not_after_before (least initial) Before (At b.begin) (least-bound (spans_of initial ops initial) initial_span initial_present) refl)
      (greatest_at_least (value_of b.act) b (k, refl))
  least_first (Some a) b h k p =
      before_not_after (least (value_of a.act)) (At b.begin) (greatest (value_of b.act))
      (not_after_before (least (value_of a.act)) (edge_of_end a.end) (At b.begin) (least_at_most (value_of a.act) a (h, refl)) (edge_from_end a.end b.begin p))
      (greatest_at_least (value_of b.act) b (k, refl))

  pub conflict_of : (a : Option Op) (b : Op) (c : Option Op) (d : Op) → IsCrossing initial ops a b c d → Conflicts (zone_of initial ops (value_of d.act)) (zone_of initial ops (value_of b.act))
  conflict_of a b c d x = (conflict_is (value_of d.act) (value_of b.act)).1 (
    subst (λ (v : Value). ComesBefore (least v) (greatest (value_of b.act))) x.one_value (least_first a b x.a_present x.b_present x.a_before_b),
    subst (λ (v : Value). ComesBefore (least v) (greatest (value_of d.act))) x.other_value (least_first c d x.c_present x.d_present x.c_before_d),
  )

  pub edges_in_order : (v : Value) → HasOrderedEdges (zone_of initial ops v)
  edges_in_order v = ordered-between (least v) (greatest v) v

  -- the left edges of the zones of different values are different
  pub left_edges_apart : HasDistinctMoments ops → AllPairs (λ u v. u ≢ v) (written_values initial ops) → AllPairs (λ a b. a.left ≢ b.left) (zones_of initial ops)
  left_edges_apart moments pairs =
      pairs_mapped (zone_of initial ops) (λ v. EdgeIn v (left v)) (λ u v. u ≢ v) (λ a b. a.left ≢ b.left)
      (λ u v i j n e. n (settle moments u v (left v) (subst (EdgeIn u) e i) j))
      (written_values initial ops)
      (All-cons (λ v. EdgeIn v (left v)) initial (map (λ w. value_of w.act) (writes ops))
      (subst (EdgeIn initial) (sym left_initial) refl)
      (All-map (λ v. EdgeIn v (left v)) (λ w. value_of w.act) (writes ops)
      (all_from (λ w. EdgeIn (value_of w.act) (left (value_of w.act))) (writes ops) (λ w h.
      let k = kept_present is_write ops w h in
      left_in (value_of w.act) w (kept is_judged ops w k.0 (judged_write w k.1), refl)))))
      pairs
