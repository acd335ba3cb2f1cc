use Rattle.zone_tree.proofs.OneOrder.{one_order}
use Rattle.zone_tree.proofs.laws.zones_have_one_order.Goals as goal

pub returns : goal.returns
returns c = one_order
