-- The first zone that conflicts with an earlier forward one, and the last forward zone before it.
use Rattle.std.proofs.Common.{◌≡◌, ◌∙◌, ◌⊎◌, inl, inr, Bool, true, false, List, [], ◌∷◌, ◌++◌, Option, Some, None, refl, sym, ap, subst, arith, append_assoc}
use Rattle.std.specs.Prelude.{All, Contains, IsSomeAnd, ◌&&◌, if◌then◌else◌}
use Rattle.std.specs.Option.{option_or}
use Rattle.std.proofs.lemmas.Bool.{cases_Bool, both_ways}
use Rattle.std.proofs.lemmas.List.Elements.{All-nil, All-cons, All-head, All-tail, All-weaker, All-contains, Contains-append_right}
use Rattle.zone_tree.specs.declared.edge.Edge.{Edge}
use Rattle.zone_tree.specs.declared.zone.Zone.{Zone}
use Rattle.zone_tree.specs.declared.summary.ZoneSummary.{ZoneSummary}
use Rattle.zone_tree.specs.Edge.{ComesBefore}
use Rattle.zone_tree.specs.Zone.{IsForward, HasOrderedEdges, Conflicts}
use Rattle.zone_tree.specs.Conflict.{IsClean, KeepsClearOfForward, IsFirstConflict}
use Rattle.zone_tree.specs.Order.{StandInOrder}
use Rattle.zone_tree.specs.Summary.{no_zones, one_zone, join_zones, summary_of_zones}
use Rattle.zone_tree.specs.Look.{begins_before, last_that, IsFirstMeeting, IsMetFirst}
use Rattle.zone_tree.proofs.EdgeOrder.{before_irreflexive, not_both_ways}
use Rattle.summary_tree.proofs.Pairs.{pairs_head, pairs_tail}
use Rattle.zone_tree.proofs.TwoZones.{clear_ends_before}
use Rattle.zone_tree.proofs.Farthest.{IsFarthest, Meets, clear_push, order_front}
use Rattle.zone_tree.proofs.FirstFound.{meets}
use Rattle.zone_tree.proofs.Sides.{earlier_edges}
use Rattle.zone_tree.proofs.Looks.{last_front, none_late}
use Rattle.zone_tree.proofs.Summaries.{join_none, none_after}
use Rattle.zone_tree.proofs.Meetings.{seen_around}
use Rattle.zone_tree.proofs.Seams.{bit_where_clear, bit_where_clean}

abbrev Clear : Zone → Zone → Type 0
Clear earlier later = IsForward earlier → ¬ Conflicts earlier later

abbrev Left : Zone → Zone → Type 0
Left a b = ComesBefore a.left b.left

abbrev Ends : Edge → Zone → Type 0
Ends right other = IsForward other → ¬ ComesBefore right other.right

abbrev last_forward : List Zone → Option Zone
last_forward zones = last_that (λ z. z.forward) zones

contains_first : (z : Zone) (zones : List Zone) → Contains (z ∷ zones) z
contains_first z zones = (0, omega arith, refl)

-- the farthest forward zone once one more zone comes before the list
farthest_by : (z : Zone) (zones : List Zone) (found : Option Zone) → StandInOrder (z ∷ zones) → KeepsClearOfForward (z ∷ zones) → IsFarthest found zones → (z.forward ≡ true) ⊎ (z.forward ≡ false) → IsFarthest (option_or found (if z.forward then Some z else None)) (z ∷ zones)
farthest_by z zones None order clear none (inl f) =
    subst (λ (o : Option Zone). IsFarthest o (z ∷ zones)) (sym (ap (λ (b : Bool). if b then Some z else None) f)) (record {
      present = contains_first z zones;
      forward = f;
      farthest = All-cons (Ends z.right) z zones (λ _. before_irreflexive z.right) (All-weaker (λ o. ¬ IsForward o) (Ends z.right) (λ o n g. absurd (n g)) zones none);
    })
farthest_by z zones None order clear none (inr b) =
    subst (λ (o : Option Zone). IsFarthest o (z ∷ zones)) (sym (ap (λ (c : Bool). if c then Some z else None) b))
    (All-cons (λ o. ¬ IsForward o) z zones (both_ways z.forward b) none)
farthest_by z zones (Some found) order clear is cases = record {
  present = Contains-append_right (z ∷ []) zones found is.present;
  forward = is.forward;
  farthest = All-cons (Ends found.right) z zones
      (λ f. not_both_ways z.right found.right (clear_ends_before z found
      (All-head HasOrderedEdges z zones order.edges)
      (All-contains HasOrderedEdges zones found (All-tail HasOrderedEdges z zones order.edges) is.present)
      f is.forward
      (All-contains (Left z) zones found (pairs_head Left z zones order.by_left) is.present)
      (All-contains (Clear z) zones found (pairs_head Clear z zones clear) is.present f)))
      is.farthest;
}

-- among zones that keep clear of earlier forward ones the last forward one is the farthest
farthest_last : (zones : List Zone) → StandInOrder zones → KeepsClearOfForward zones → IsFarthest (last_forward zones) zones
unfolding last_that
farthest_last [] order clear = All-nil (λ z. ¬ IsForward z)
farthest_last (z ∷ zones) order clear =
    farthest_by z zones (last_forward zones) order clear
    (farthest_last zones (record { by_left = pairs_tail Left z zones order.by_left; edges = All-tail HasOrderedEdges z zones order.edges }) (pairs_tail Clear z zones clear))
    (cases_Bool z.forward)

-- a test that agrees with another on each zone of a list
and_true : (b : Bool) → b && true ≡ b
and_true true = refl
and_true false = refl

last_same : (edge : Edge) (zones : List Zone) → All (λ z. ComesBefore z.left edge) zones → last_that (begins_before edge) zones ≡ last_forward zones
unfolding last_that
last_same edge [] h = refl
last_same edge (z ∷ zones) h =
    ap (λ o. option_or o (if begins_before edge z then Some z else None)) (last_same edge zones (All-tail (λ x. ComesBefore x.left edge) z zones h))
    ∙ ap (λ (b : Bool). option_or (last_forward zones) (if z.forward && b then Some z else None)) (All-head (λ x. ComesBefore x.left edge) z zones h)
    ∙ ap (λ (b : Bool). option_or (last_forward zones) (if b then Some z else None)) (and_true z.forward)

module _ (zones : List Zone) (second : Zone) (order : StandInOrder zones) (met : IsFirstMeeting no_zones zones second) where
  cut : StandInOrder (met.earlier ++ second ∷ met.later)
  cut = subst StandInOrder met.parts order

  front : StandInOrder met.earlier
  front = order_front met.earlier (second ∷ met.later) cut

  clear : KeepsClearOfForward met.earlier
  clear = (bit_where_clear met.earlier front).0 (sym (ap (λ (s : ZoneSummary). s.conflict) (join_none (summary_of_zones met.earlier))) ∙ met.clear)

  last_is : last_that (begins_before second.left) zones ≡ last_forward met.earlier
  last_is =
      ap (last_that (begins_before second.left)) met.parts
      ∙ last_front (begins_before second.left) met.earlier (second ∷ met.later) (none_late second.left met.earlier second met.later cut.by_left (before_irreflexive second.left))
      ∙ last_same second.left met.earlier (earlier_edges met.earlier second met.later cut.by_left)

  farthest : (found : Option Zone) → found ≡ last_that (begins_before second.left) zones → IsFarthest found met.earlier
  farthest found e = subst (λ (o : Option Zone). IsFarthest o met.earlier) (sym (e ∙ last_is)) (farthest_last met.earlier front clear)

  with_second : StandInOrder (met.earlier ++ second ∷ [])
  with_second = order_front (met.earlier ++ second ∷ []) met.later (subst StandInOrder (sym (append_assoc met.earlier (second ∷ []) met.later)) cut)

  bit : (summary_of_zones (met.earlier ++ second ∷ [])).conflict ≡ true
  bit =
      ap (λ (s : ZoneSummary). s.conflict) (sym (join_none (summary_of_zones (met.earlier ++ second ∷ []))) ∙ seen_around no_zones met.earlier second [] ∙ none_after (join_zones (join_zones no_zones (summary_of_zones met.earlier)) (one_zone second)))
      ∙ met.meets

  found_by : (found : Option Zone) → IsFarthest found met.earlier → Meets found second ⊎ (¬ Meets found second) → IsSomeAnd found (λ first. IsFirstConflict zones first second)
  found_by found is (inr n) =
      absurd (both_ways (summary_of_zones (met.earlier ++ second ∷ [])).conflict
      ((bit_where_clear (met.earlier ++ second ∷ []) with_second).1 (clear_push found met.earlier second with_second is n clear)) bit)
  found_by None is (inl c) = absurd c
  found_by (Some first) is (inl c) = record {
    earlier = met.earlier;
    later = met.later;
    parts = met.parts;
    clear = clear;
    farthest = is;
    conflict = c;
  }

  pub first_from : (found : Option Zone) → found ≡ last_that (begins_before second.left) zones → IsSomeAnd found (λ first. IsFirstConflict zones first second)
  first_from found e = found_by found (farthest found e) (meets found second)

-- where no zone conflicts with an earlier forward one
pub clean_met : (zones : List Zone) → StandInOrder zones → IsMetFirst no_zones zones None → IsClean zones
clean_met zones order clear = (bit_where_clean zones order).0 (sym (ap (λ (s : ZoneSummary). s.conflict) (join_none (summary_of_zones zones))) ∙ clear)
