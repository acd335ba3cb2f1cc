use Rattle.zone_tree.proofs.MomentOrder.{moment_order, moment_exact}
use Rattle.zone_tree.proofs.stretch.StretchKeyed.keys_are_in_one_order.Goals as goal

pub returns : goal.returns
returns c = record { order = moment_order; exact = moment_exact }
