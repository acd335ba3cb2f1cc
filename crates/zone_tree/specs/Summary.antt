-- What each node keeps of the zones below it, so that conflicts show without a look at each zone.
use Rattle.std.specs.Prelude.{Bool, false, ◌||◌, List, [], ◌∷◌, if◌then◌else◌}
use Rattle.zone_tree.specs.declared.edge.Edge.TheVariants.{Before, Never}
use Rattle.zone_tree.specs.declared.zone.Zone.{Zone}
use Rattle.zone_tree.specs.declared.summary.ZoneSummary.{ZoneSummary}
use Rattle.zone_tree.specs.Edge.{earlier_edge, edge_before, later_edge}

-- a forward zone of the first list ends after a forward zone of the second begins, or after a backward one of the
-- second ends
abbrev pub meets : ZoneSummary → ZoneSummary → Bool
meets s t = edge_before t.first_forward s.last_forward || edge_before t.first_backward s.last_forward

-- the summary of no zones: no edge meets another, and nothing conflicts
unfoldable pub no_zones : ZoneSummary
no_zones = record { last_forward = Before; first_forward = Never; first_backward = Never; conflict = false }

-- the summary of one zone
unfoldable pub one_zone : Zone → ZoneSummary
one_zone z =
    if z.forward
    then record { last_forward = z.right; first_forward = z.left; first_backward = Never; conflict = false }
    else record { last_forward = Before; first_forward = Never; first_backward = z.right; conflict = false }

-- the summary of two lists of zones, one after the other, from the summaries of both
unfoldable pub join_zones : ZoneSummary → ZoneSummary → ZoneSummary
join_zones s t = record {
  last_forward = later_edge s.last_forward t.last_forward;
  first_forward = earlier_edge s.first_forward t.first_forward;
  first_backward = earlier_edge s.first_backward t.first_backward;
  conflict = (s.conflict || t.conflict) || meets s t;
}

-- the summary of a list of zones
unfoldable pub summary_of_zones : List Zone → ZoneSummary
summary_of_zones [] = no_zones
summary_of_zones (z ∷ zones) = join_zones (one_zone z) (summary_of_zones zones)
