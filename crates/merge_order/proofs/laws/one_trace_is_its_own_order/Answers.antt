use Rattle.merge_order.proofs.OneOrder.{alone}
use Rattle.merge_order.proofs.laws.one_trace_is_its_own_order.Goals as goal

pub returns : goal.returns
returns c = alone
