use Rattle.read_tree.proofs.InOrder.{spot_order, spot_exact}
use Rattle.read_tree.proofs.item.RowItemKeyed.keys_are_in_one_order.Goals as goal

pub returns : goal.returns
returns c = record { order = spot_order; exact = spot_exact }
