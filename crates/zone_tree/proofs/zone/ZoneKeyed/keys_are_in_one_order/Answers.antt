use Rattle.zone_tree.proofs.EdgeOrder.{edge_order, edge_exact}
use Rattle.zone_tree.proofs.zone.ZoneKeyed.keys_are_in_one_order.Goals as goal

pub returns : goal.returns
returns c = record { order = edge_order; exact = edge_exact }
