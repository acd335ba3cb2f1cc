-- What is known of the node at the top of a tree of zones.
use Rattle.std.specs.Prelude.{◌≡◌, List}
use Rattle.summary_tree.specs.declared.node.Node.{Node}
use Rattle.summary_tree.specs.Node.{items_of}
use Rattle.zone_tree.specs.declared.zone.Zone.{Zone}
use Rattle.zone_tree.specs.declared.summary.ZoneSummary.{ZoneSummary}
use Rattle.zone_tree.specs.Order.{StandInOrder}
use Rattle.zone_tree.specs.Summary.{summary_of_zones}

-- the node is at the top of a tree of these zones, its summary is theirs, and where they are in order so is each of its
-- sides
pub record IsTopZone (n : Node Zone ZoneSummary) (zones : List Zone) : Type 0 where
  pub all : zones ≡ items_of n
  pub summary : n.summary ≡ summary_of_zones zones
  pub left : StandInOrder zones → StandInOrder n.left.items
  pub right : StandInOrder zones → StandInOrder n.right.items
