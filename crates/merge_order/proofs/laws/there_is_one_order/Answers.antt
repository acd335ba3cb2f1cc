use Rattle.merge_order.proofs.OneOrder.{one_order, some_order}
use Rattle.merge_order.proofs.laws.there_is_one_order.Goals as goal

pub returns : goal.returns
returns c = record { some = some_order; one = one_order }
