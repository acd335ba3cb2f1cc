-- What the look-ups among zones look for.
use Rattle.std.specs.Prelude.{◌≡◌, Bool, true, false, ◌&&◌, List, [], ◌∷◌, ◌++◌, Option, Some, None, MatchOption, filter, if◌then◌else◌}
use Rattle.std.specs.Option.{option_or}
use Rattle.zone_tree.specs.declared.edge.Edge.{Edge}
use Rattle.zone_tree.specs.declared.edge.Edge.TheVariants.{Never}
use Rattle.zone_tree.specs.declared.zone.Zone.{Zone}
use Rattle.zone_tree.specs.declared.summary.ZoneSummary.{ZoneSummary}
use Rattle.zone_tree.specs.Edge.{edge_before}
use Rattle.zone_tree.specs.Summary.{one_zone, join_zones, summary_of_zones}

-- the test whether the zone's left edge comes after the optional edge; without an edge each does
abbrev pub is_following : Option Edge → Zone → Bool
is_following None z = true
is_following (Some edge) z = edge_before edge z.left

-- the zones whose left edge comes after the optional edge; without an edge all of them
abbrev pub zones_after : Option Edge → List Zone → List Zone
zones_after after zones = filter (is_following after) zones

-- the test for a forward zone whose left edge comes before this one
abbrev pub begins_before : Edge → Zone → Bool
begins_before edge z = z.forward && edge_before z.left edge

-- the last zone that passes the test, or none
unfoldable pub last_that : (Zone → Bool) → List Zone → Option Zone
last_that p [] = None
last_that p (z ∷ zones) = option_or (last_that p zones) (if p z then Some z else None)

-- the test whether some zone is forward: then the least left edge of a forward zone comes before `Never`
abbrev pub has_forward : ZoneSummary → Bool
has_forward s = edge_before s.first_forward Never

-- the zone is the first of the list that conflicts with a forward one before it, in the list or among the zones of
-- `seen`
pub record IsFirstMeeting (seen : ZoneSummary) (zones : List Zone) (zone : Zone) : Type 0 where
  pub earlier : List Zone
  pub later : List Zone
  pub parts : zones ≡ earlier ++ zone ∷ later
  pub clear : (join_zones seen (summary_of_zones earlier)).conflict ≡ false
  pub meets : (join_zones (join_zones seen (summary_of_zones earlier)) (one_zone zone)).conflict ≡ true

-- the optional zone is the first of the list that conflicts with a forward one before it, in the list or among the
-- zones of `seen`; none where no two conflict
abbrev pub IsMetFirst : ZoneSummary → List Zone → Option Zone → Type 0
IsMetFirst seen zones found = MatchOption found ((join_zones seen (summary_of_zones zones)).conflict ≡ false) (IsFirstMeeting seen zones)
