-- A summary has its conflict bit exactly where two zones of a list in order conflict.
use Rattle.std.proofs.Common.{◌≡◌, ◌∙◌, ◌↔◌, ◌⊎◌, inl, inr, true, false, not, List, [], ◌∷◌, get_or, refl, sym, ap}
use Rattle.std.specs.Prelude.{All, IsTrue, ◌||◌}
use Rattle.std.proofs.lemmas.Bool.{cases_Bool, both_ways, not_from_false, not-true}
use Rattle.std.proofs.lemmas.List.Elements.{All-nil, All-cons, All-head, All-tail}
use Rattle.zone_tree.specs.declared.edge.Edge.{Edge}
use Rattle.zone_tree.specs.declared.edge.Edge.TheVariants.{Before}
use Rattle.zone_tree.specs.declared.zone.Zone.{Zone}
use Rattle.zone_tree.specs.declared.summary.ZoneSummary.{ZoneSummary}
use Rattle.zone_tree.specs.Edge.{edge_before, ComesBefore}
use Rattle.zone_tree.specs.Zone.{IsForward, HasOrderedEdges, Conflicts}
use Rattle.zone_tree.specs.Conflict.{IsClean, KeepsClearOfForward}
use Rattle.zone_tree.specs.Order.{StandInOrder}
use Rattle.zone_tree.specs.Summary.{meets, no_zones, one_zone, join_zones, summary_of_zones}
use Rattle.zone_tree.proofs.EdgeOrder.{before_transitive, before-false}
use Rattle.summary_tree.proofs.Pairs.{pairs_nil, pairs_head, pairs_tail, pairs_cons}
use Rattle.zone_tree.proofs.TwoZones.{forward_zones, backward_inside}
use Rattle.zone_tree.proofs.Farthest.{clean_where_clear}
use Rattle.zone_tree.proofs.Summaries.{or_clear, one_forward, one_backward, earliest_before, not_before_all}

-- no forward zone begins before the edge, and no backward one ends before it
abbrev BeginsLate : Edge → Zone → Type 0
BeginsLate e y = IsForward y → ¬ ComesBefore y.left e

abbrev EndsLate : Edge → Zone → Type 0
EndsLate e y = ¬ IsForward y → ¬ ComesBefore y.right e

one_begins : (e : Edge) (y : Zone) → (y.forward ≡ true) ⊎ (y.forward ≡ false) → (edge_before (one_zone y).first_forward e ≡ false) ↔ BeginsLate e y
one_begins e y (inl f) =
    let is = ap (λ (s : ZoneSummary). edge_before s.first_forward e) (one_forward y f) in
    ((λ h _ g. both_ways (edge_before y.left e) (sym is ∙ h) g), (λ late. is ∙ before-false y.left e (late f)))
one_begins e y (inr b) =
    let is = ap (λ (s : ZoneSummary). edge_before s.first_forward e) (one_backward y b) in
    ((λ h f. absurd (both_ways y.forward b f)), (λ late. is))

one_ends : (e : Edge) (y : Zone) → (y.forward ≡ true) ⊎ (y.forward ≡ false) → (edge_before (one_zone y).first_backward e ≡ false) ↔ EndsLate e y
one_ends e y (inl f) =
    let is = ap (λ (s : ZoneSummary). edge_before s.first_backward e) (one_forward y f) in
    ((λ h n. absurd (n f)), (λ late. is))
one_ends e y (inr b) =
    let is = ap (λ (s : ZoneSummary). edge_before s.first_backward e) (one_backward y b) in
    ((λ h _ g. both_ways (edge_before y.right e) (sym is ∙ h) g), (λ late. is ∙ before-false y.right e (late (both_ways y.forward b))))

begin_of_join : (e : Edge) (y : Zone) (zones : List Zone) → edge_before (summary_of_zones (y ∷ zones)).first_forward e ≡ edge_before (one_zone y).first_forward e || edge_before (summary_of_zones zones).first_forward e
unfolding summary_of_zones join_zones
begin_of_join e y zones = earliest_before e (one_zone y).first_forward (summary_of_zones zones).first_forward

end_of_join : (e : Edge) (y : Zone) (zones : List Zone) → edge_before (summary_of_zones (y ∷ zones)).first_backward e ≡ edge_before (one_zone y).first_backward e || edge_before (summary_of_zones zones).first_backward e
unfolding summary_of_zones join_zones
end_of_join e y zones = earliest_before e (one_zone y).first_backward (summary_of_zones zones).first_backward

none_begins : (e : Edge) → edge_before (summary_of_zones []).first_forward e ≡ false
unfolding summary_of_zones no_zones
none_begins e = refl

none_ends : (e : Edge) → edge_before (summary_of_zones []).first_backward e ≡ false
unfolding summary_of_zones no_zones
none_ends e = refl

all_begin : (e : Edge) (zones : List Zone) → (edge_before (summary_of_zones zones).first_forward e ≡ false) ↔ All (BeginsLate e) zones
all_begin e [] = ((λ _. All-nil (BeginsLate e)), (λ _. none_begins e))
all_begin e (y ∷ zones) =
    let or = or_clear (edge_before (one_zone y).first_forward e) (edge_before (summary_of_zones zones).first_forward e) in
    let one = one_begins e y (cases_Bool y.forward) in
    let others = all_begin e zones in (
      (λ h. let parts = or.0 (sym (begin_of_join e y zones) ∙ h) in All-cons (BeginsLate e) y zones (one.0 parts.0) (others.0 parts.1)),
      (λ all. begin_of_join e y zones ∙ or.1 (one.1 (All-head (BeginsLate e) y zones all), others.1 (All-tail (BeginsLate e) y zones all))),
    )

all_end : (e : Edge) (zones : List Zone) → (edge_before (summary_of_zones zones).first_backward e ≡ false) ↔ All (EndsLate e) zones
all_end e [] = ((λ _. All-nil (EndsLate e)), (λ _. none_ends e))
all_end e (y ∷ zones) =
    let or = or_clear (edge_before (one_zone y).first_backward e) (edge_before (summary_of_zones zones).first_backward e) in
    let one = one_ends e y (cases_Bool y.forward) in
    let others = all_end e zones in (
      (λ h. let parts = or.0 (sym (end_of_join e y zones) ∙ h) in All-cons (EndsLate e) y zones (one.0 parts.0) (others.0 parts.1)),
      (λ all. end_of_join e y zones ∙ or.1 (one.1 (All-head (EndsLate e) y zones all), others.1 (All-tail (EndsLate e) y zones all))),
    )

-- a later zone does not conflict with a forward one exactly where it begins or ends late enough
clear_by : (z y : Zone) → IsForward z → ComesBefore z.left y.left → BeginsLate z.right y → EndsLate z.right y → (y.forward ≡ true) ⊎ (y.forward ≡ false) → ¬ Conflicts z y
clear_by z y f l begins ends (inl g) c = begins g ((forward_zones z y f g).0 c).1
clear_by z y f l begins ends (inr b) c = let n = both_ways y.forward b in ends n ((backward_inside z y f n).0 c).1

begins_by : (z y : Zone) → HasOrderedEdges y → IsForward z → ComesBefore z.left y.left → ¬ Conflicts z y → BeginsLate z.right y
begins_by z y edges f l clear g h = clear ((forward_zones z y f g).1 (before_transitive z.left y.left y.right l (edges.0 g), h))

ends_by : (z y : Zone) → IsForward z → ComesBefore z.left y.left → ¬ Conflicts z y → EndsLate z.right y
ends_by z y f l clear n h = clear ((backward_inside z y f n).1 (l, h))

abbrev Left : Zone → Zone → Type 0
Left a b = ComesBefore a.left b.left

abbrev Clear : Zone → Zone → Type 0
Clear earlier later = IsForward earlier → ¬ Conflicts earlier later

-- whether one zone meets those after it
seam_by : (z : Zone) (zones : List Zone) → All (Left z) zones → All HasOrderedEdges zones → (z.forward ≡ true) ⊎ (z.forward ≡ false) → (meets (one_zone z) (summary_of_zones zones) ≡ false) ↔ All (Clear z) zones
seam_by z zones lefts edges (inl f) =
    let s = summary_of_zones zones in
    let is = ap (λ (o : ZoneSummary). meets o s) (one_forward z f) in
    let or = or_clear (edge_before s.first_forward z.right) (edge_before s.first_backward z.right) in (
      (λ h. let parts = or.0 (sym is ∙ h) in λ k d lt _.
          clear_by z (get_or zones k d) f (lefts k d lt) ((all_begin z.right zones).0 parts.0 k d lt) ((all_end z.right zones).0 parts.1 k d lt) (cases_Bool (get_or zones k d).forward)),
      (λ all. is ∙ or.1 (
        (all_begin z.right zones).1 (λ k d lt. begins_by z (get_or zones k d) (edges k d lt) f (lefts k d lt) (all k d lt f)),
        (all_end z.right zones).1 (λ k d lt. ends_by z (get_or zones k d) f (lefts k d lt) (all k d lt f)),
      )),
    )
seam_by z zones lefts edges (inr b) =
    let s = summary_of_zones zones in
    let is = ap (λ (o : ZoneSummary). meets o s) (one_backward z b) in (
      (λ h k d lt f. absurd (both_ways z.forward b f)),
      (λ all. is ∙ (or_clear (edge_before s.first_forward Before) (edge_before s.first_backward Before)).1 (not_before_all s.first_forward, not_before_all s.first_backward)),
    )

pub one_is_clear : (z : Zone) → (z.forward ≡ true) ⊎ (z.forward ≡ false) → (one_zone z).conflict ≡ false
one_is_clear z (inl f) = ap (λ (s : ZoneSummary). s.conflict) (one_forward z f)
one_is_clear z (inr b) = ap (λ (s : ZoneSummary). s.conflict) (one_backward z b)

bit_of_join : (z : Zone) (zones : List Zone) → (summary_of_zones (z ∷ zones)).conflict ≡ ((one_zone z).conflict || (summary_of_zones zones).conflict) || meets (one_zone z) (summary_of_zones zones)
unfolding summary_of_zones join_zones
bit_of_join z zones = refl

pub no_bit : (summary_of_zones []).conflict ≡ false
unfolding summary_of_zones no_zones
no_bit = refl

pub bit_where_clear : (zones : List Zone) → StandInOrder zones → ((summary_of_zones zones).conflict ≡ false) ↔ KeepsClearOfForward zones
bit_where_clear [] order = ((λ _. pairs_nil Clear), (λ _. no_bit))
bit_where_clear (z ∷ zones) order =
    let o = (one_zone z).conflict in
    let b = (summary_of_zones zones).conflict in
    let m = meets (one_zone z) (summary_of_zones zones) in
    let later : StandInOrder zones = record { by_left = pairs_tail Left z zones order.by_left; edges = All-tail HasOrderedEdges z zones order.edges } in
    let seam = seam_by z zones (pairs_head Left z zones order.by_left) later.edges (cases_Bool z.forward) in
    let others = bit_where_clear zones later in (
      (λ h.
          let parts = (or_clear (o || b) m).0 (sym (bit_of_join z zones) ∙ h) in
          pairs_cons Clear z zones (seam.0 parts.1) (others.0 ((or_clear o b).0 parts.0).1)),
      (λ clear.
          bit_of_join z zones
          ∙ (or_clear (o || b) m).1 (
            (or_clear o b).1 (one_is_clear z (cases_Bool z.forward), others.1 (pairs_tail Clear z zones clear)),
            seam.1 (pairs_head Clear z zones clear),
          )),
    )

pub bit_where_clean : (zones : List Zone) → StandInOrder zones → ((summary_of_zones zones).conflict ≡ false) ↔ IsClean zones
bit_where_clean zones order =
    let bit = bit_where_clear zones order in
    let clean = clean_where_clear zones order in
    ((λ h. clean.1 (bit.0 h)), (λ h. bit.1 (clean.0 h)))

pub clean_where : (zones : List Zone) → StandInOrder zones → IsTrue (not (summary_of_zones zones).conflict) ↔ IsClean zones
clean_where zones order =
    let bit = bit_where_clean zones order in (
      (λ h. bit.0 (not-true (summary_of_zones zones).conflict h)),
      (λ clean. not_from_false (summary_of_zones zones).conflict (bit.1 clean)),
    )
