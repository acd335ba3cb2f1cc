-- The zones around one of them, by left edge.
use Rattle.std.proofs.Common.{List, ◌∷◌, ◌++◌}
use Rattle.std.specs.Prelude.{All}
use Rattle.summary_tree.proofs.Pairs.{All-front, All-back}
use Rattle.std.proofs.lemmas.List.Elements.{All-tail}
use Rattle.summary_tree.proofs.Sides as sides
use Rattle.zone_tree.specs.declared.zone.Zone.{Zone}
use Rattle.zone_tree.specs.Edge.{ComesBefore, edge_before}
use Rattle.zone_tree.specs.Zone.{HasOrderedEdges}
use Rattle.zone_tree.specs.Order.{IsByLeft, StandInOrder}
use Rattle.zone_tree.proofs.EdgeOrder.{left_of}

pub sides_in_order : (xs : List Zone) (z : Zone) (ys : List Zone) → StandInOrder (xs ++ z ∷ ys) → StandInOrder xs × StandInOrder ys
sides_in_order xs z ys order = (
  record { by_left = sides.left_in_order left_of edge_before xs z ys order.by_left; edges = All-front HasOrderedEdges xs (z ∷ ys) order.edges },
  record { by_left = sides.right_in_order left_of edge_before xs z ys order.by_left; edges = All-tail HasOrderedEdges z ys (All-back HasOrderedEdges xs (z ∷ ys) order.edges) },
)

-- the zones on either side of one have edges on either side of its own
pub earlier_edges : (xs : List Zone) (z : Zone) (ys : List Zone) → IsByLeft (xs ++ z ∷ ys) → All (λ x. ComesBefore x.left z.left) xs
earlier_edges xs z ys by = sides.earlier left_of edge_before xs z ys by

pub later_edges : (xs : List Zone) (z : Zone) (ys : List Zone) → IsByLeft (xs ++ z ∷ ys) → All (λ y. ComesBefore z.left y.left) ys
later_edges xs z ys by = sides.later left_of edge_before xs z ys by
