-- A zone before those of a tree.
use Rattle.std.proofs.Common.{◌≡◌, ◌∙◌, ◌↔◌, Bool, true, false, not, List, ◌∷◌, Option, Some, None, ap}
use Rattle.std.specs.Prelude.{All, IsSomeAnd, IsTrue, if◌then◌else◌}
use Rattle.std.specs.Option.{option_or}
use Rattle.std.proofs.lemmas.Bool.{cases_Bool}
use Rattle.std.proofs.lemmas.List.Elements.{All-cons}
use Rattle.zone_tree.specs.declared.zone.Zone.{Zone}
use Rattle.zone_tree.specs.declared.summary.ZoneSummary.{ZoneSummary}
use Rattle.zone_tree.specs.Edge.{ComesBefore}
use Rattle.zone_tree.specs.Zone.{HasOrderedEdges}
use Rattle.zone_tree.specs.Conflict.{IsClean, IsFirstConflict}
use Rattle.zone_tree.specs.Order.{StandInOrder}
use Rattle.zone_tree.specs.Summary.{no_zones, one_zone, join_zones, summary_of_zones}
use Rattle.zone_tree.specs.Look.{begins_before, last_that, IsFirstMeeting, IsMetFirst}
use Rattle.summary_tree.proofs.Pairs.{pairs_cons}
use Rattle.zone_tree.proofs.Summaries.{join_none}
use Rattle.zone_tree.proofs.Seams.{one_is_clear, bit_where_clean, clean_where}
use Rattle.zone_tree.proofs.FirstConflicts.{first_from}

abbrev Left : Zone → Zone → Type 0
Left a b = ComesBefore a.left b.left

pub one_clear : (z : Zone) → (one_zone z).conflict ≡ false
one_clear z = one_is_clear z (cases_Bool z.forward)

module _ (first : Zone) (zones : List Zone) (edges : HasOrderedEdges first) (before : All (λ z. ComesBefore first.left z.left) zones) (order : StandInOrder zones) where
  in_order : StandInOrder (first ∷ zones)
  in_order = record {
    by_left = pairs_cons Left first zones before order.by_left;
    edges = All-cons HasOrderedEdges first zones edges order.edges;
  }

  pub clean_in_front : IsTrue (not (join_zones (one_zone first) (summary_of_zones zones)).conflict) ↔ IsClean (first ∷ zones)
  unfolding summary_of_zones
  clean_in_front = clean_where (first ∷ zones) in_order

  -- where no zone of the tree is met after that zone
  pub clean_met_in_front : IsMetFirst (one_zone first) zones None → IsClean (first ∷ zones)
  unfolding summary_of_zones
  clean_met_in_front clear = (bit_where_clean (first ∷ zones) in_order).0 clear

  -- the first zone that is met after that zone is the first of all that is met
  met_in_front : (second : Zone) → IsFirstMeeting (one_zone first) zones second → IsFirstMeeting no_zones (first ∷ zones) second
  unfolding summary_of_zones
  met_in_front second met = record {
    earlier = first ∷ met.earlier;
    later = met.later;
    parts = ap (λ zs. first ∷ zs) met.parts;
    clear = ap (λ (s : ZoneSummary). s.conflict) (join_none (summary_of_zones (first ∷ met.earlier))) ∙ met.clear;
    meets = ap (λ (s : ZoneSummary). (join_zones s (one_zone second)).conflict) (join_none (summary_of_zones (first ∷ met.earlier))) ∙ met.meets;
  }

  -- the last zone of all that passes is that zone where none of the others passes
  last_in_front : (p : Zone → Bool) (found : Option Zone) → found ≡ last_that p zones → option_or found (if p first then Some first else None) ≡ last_that p (first ∷ zones)
  unfolding last_that
  last_in_front p found e = ap (λ o. option_or o (if p first then Some first else None)) e

  abbrev IsFirstOf : Zone → Option Zone → Type 0
  IsFirstOf second found = IsSomeAnd found (λ earlier. IsFirstConflict (first ∷ zones) earlier second)

  chosen : (second : Zone) (found : Option Zone) (b : Bool) → IsFirstOf second (option_or found (if b then Some first else None)) → IsFirstOf second (option_or found (Some first))
  chosen second (Some last) b is = is
  chosen second None true is = is
  chosen second None false is = absurd is

  pub first_in_front : (second : Zone) → IsFirstMeeting (one_zone first) zones second → (found : Option Zone) → found ≡ last_that (begins_before second.left) zones → IsFirstOf second (option_or found (Some first))
  first_in_front second met found e =
      let p = begins_before second.left in
      chosen second found (p first)
      (first_from (first ∷ zones) second in_order (met_in_front second met) (option_or found (if p first then Some first else None)) (last_in_front p found e))
