-- Zones by their left edges.
use Rattle.std.specs.Prelude.{ℕ, ◌≢◌, not, All, List, ◌∷◌, ◌++◌, Option, filter}
use Rattle.std.specs.List.{AllPairs, find}
use Rattle.zone_tree.specs.declared.edge.Edge.{Edge}
use Rattle.zone_tree.specs.declared.zone.Zone.{Zone}
use Rattle.zone_tree.specs.Edge.{ComesBefore, edge_before, same_edge}
use Rattle.zone_tree.specs.Zone.{HasOrderedEdges}

-- what a tree holds: its zones by left edge, how many more it has room for, and how many levels its edits went down
pub record ZoneContents : Type 0 where
  pub zones : List Zone
  pub free : ℕ
  pub steps : ℕ

-- the left edge of each zone comes before those of all later zones
abbrev pub IsByLeft : List Zone → Type 0
IsByLeft zones = AllPairs (λ a b. ComesBefore a.left b.left) zones

-- the left edge of each zone comes before those of all later zones, and each has its edges in order
pub record StandInOrder (zones : List Zone) : Type 0 where
  pub by_left : IsByLeft zones
  pub edges : All HasOrderedEdges zones

-- no zone has this left edge
abbrev pub HasNoZoneAt : Edge → List Zone → Type 0
HasNoZoneAt left zones = All (λ z. z.left ≢ left) zones

-- the zones whose left edge comes before this one
abbrev pub zones_below : Edge → List Zone → List Zone
zones_below left zones = filter (λ z. edge_before z.left left) zones

-- the zones whose left edge comes after this one
abbrev pub zones_above : Edge → List Zone → List Zone
zones_above left zones = filter (λ z. edge_before left z.left) zones

-- the zones and one more, in its place by left edge
abbrev pub with_zone : Zone → List Zone → List Zone
with_zone zone zones = zones_below zone.left zones ++ zone ∷ zones_above zone.left zones

-- the zone that has this left edge, or none
abbrev pub zone_at : Edge → List Zone → Option Zone
zone_at left zones = find (λ z. same_edge z.left left) zones

-- the zones that have another left edge than this one
abbrev pub without_zone_at : Edge → List Zone → List Zone
without_zone_at left zones = filter (λ z. not (same_edge z.left left)) zones
