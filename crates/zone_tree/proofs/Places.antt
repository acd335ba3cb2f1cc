-- A zone's place among zones by left edge.
use Rattle.std.proofs.Common.{◌≡◌, ◌↔◌, not, List, ◌∷◌, Option, Some, None, refl, sym}
use Rattle.std.specs.Prelude.{All, IsSome}
use Rattle.std.specs.List.Sorted.{IsPermutation}
use Rattle.std.proofs.lemmas.List.Elements.{All-cons, All-append, All-filter}
use Rattle.summary_tree.proofs.Lists as lists
use Rattle.summary_tree.proofs.Places as places
use Rattle.summary_tree.proofs.Members as members
use Rattle.summary_tree.specs.Order.{with_replaced}
use Rattle.zone_tree.specs.declared.edge.Edge.{Edge}
use Rattle.zone_tree.specs.declared.zone.Zone.{Zone}
use Rattle.zone_tree.specs.Edge.{edge_before, same_edge}
use Rattle.zone_tree.specs.Zone.{HasOrderedEdges}
use Rattle.zone_tree.specs.Order.{StandInOrder, HasNoZoneAt, zones_below, zones_above, with_zone, zone_at, without_zone_at}
use Rattle.zone_tree.proofs.EdgeOrder.{left_of, edge_order, edge_exact}

-- no zone is found exactly where none has that edge, and then there is none to leave out
pub none_where : (left : Edge) (zones : List Zone) → (zone_at left zones ≡ None) ↔ HasNoZoneAt left zones
none_where left zones = (places.none_where left_of same_edge edge_exact left zones, places.none_there left_of same_edge edge_exact left zones)

pub keep_without : (left : Edge) (zones : List Zone) → zone_at left zones ≡ None → without_zone_at left zones ≡ zones
keep_without left zones e = places.keep_without left_of same_edge edge_exact left zones e

pub none_without : (left : Edge) (zones : List Zone) → HasNoZoneAt left (without_zone_at left zones)
none_without left zones = places.none_without left_of same_edge edge_exact left zones

-- the zones with one more are those and that one
pub members_with : (zone : Zone) (zones : List Zone) → StandInOrder zones → HasNoZoneAt zone.left zones → IsPermutation (zone ∷ zones) (with_zone zone zones)
members_with zone zones order new = places.members_with left_of edge_before edge_order zone zones order.by_left new

pub members_without : (left : Edge) (zones : List Zone) (zone : Zone) → StandInOrder zones → zone_at left zones ≡ Some zone → IsPermutation zones (zone ∷ without_zone_at left zones)
members_without left zones zone order e = members.members_without left_of edge_before same_edge edge_order edge_exact left zones zone order.by_left e

-- with one more zone all are still in order
pub order_with : (zone : Zone) (zones : List Zone) → StandInOrder zones → HasNoZoneAt zone.left zones → HasOrderedEdges zone → StandInOrder (with_zone zone zones)
order_with zone zones order new edges = record {
  by_left = places.order_with left_of edge_before edge_order zone zones order.by_left;
  edges =
      All-append HasOrderedEdges (zones_below zone.left zones) (zone ∷ zones_above zone.left zones)
      (All-filter (λ z. edge_before z.left zone.left) HasOrderedEdges zones order.edges)
      (All-cons HasOrderedEdges zone (zones_above zone.left zones) edges (All-filter (λ z. edge_before zone.left z.left) HasOrderedEdges zones order.edges));
}

pub order_left : (left : Edge) (zones : List Zone) → StandInOrder zones → StandInOrder (without_zone_at left zones)
order_left left zones order = record {
  by_left = places.order_kept left_of edge_before edge_order (λ z. not (same_edge z.left left)) zones order.by_left;
  edges = All-filter (λ z. not (same_edge z.left left)) HasOrderedEdges zones order.edges;
}

pub order_replaced : (new : Zone) (zones : List Zone) → StandInOrder zones → HasOrderedEdges new → StandInOrder (with_zone new (without_zone_at new.left zones))
order_replaced new zones order edges =
    order_with new (without_zone_at new.left zones) (order_left new.left zones order) (none_without new.left zones) edges

-- to replace a zone is to take it out and to put the new one in
replaced_by : (new : Zone) (zones : List Zone) (found : Option Zone) → StandInOrder zones → zone_at new.left zones ≡ found → IsSome found → with_replaced left_of same_edge new zones ≡ with_zone new (without_zone_at new.left zones)
replaced_by new zones None order e there = absurd (cc)
replaced_by new zones (Some zone) order e there = sym (members.replaced_anew left_of edge_before same_edge edge_order edge_exact new zones zone order.by_left e)

pub replaced_anew : (new : Zone) (zones : List Zone) → StandInOrder zones → IsSome (zone_at new.left zones) → with_replaced left_of same_edge new zones ≡ with_zone new (without_zone_at new.left zones)
replaced_anew new zones order there = replaced_by new zones (zone_at new.left zones) order refl there
