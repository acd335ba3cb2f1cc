-- What is known of a node at the top.
use Rattle.std.proofs.Common.{◌≡◌, List, subst}
use Rattle.summary_tree.specs.declared.node.Node.{Node}
use Rattle.summary_tree.specs.Node.{IsTop}
use Rattle.zone_tree.specs.declared.zone.Zone.{Zone}
use Rattle.zone_tree.specs.declared.summary.ZoneSummary.{ZoneSummary}
use Rattle.zone_tree.specs.Order.{StandInOrder}
use Rattle.zone_tree.specs.Summary.{summary_of_zones}
use Rattle.zone_tree.specs.Node.{IsTopZone}
use Rattle.zone_tree.proofs.Sides.{sides_in_order}

pub top_of : (n : Node Zone ZoneSummary) (zones : List Zone) → IsTop (λ s zs. s ≡ summary_of_zones zs) n zones → IsTopZone n zones
top_of n zones top = record {
  all = top.all;
  summary = top.summary;
  left = λ order. (sides_in_order n.left.items n.item n.right.items (subst StandInOrder top.all order)).0;
  right = λ order. (sides_in_order n.left.items n.item n.right.items (subst StandInOrder top.all order)).1;
}
