use Rattle.std.proofs.lemmas.List.Elements.{recursion_from_All}
use Rattle.merge_order.specs.Order.{MomentsRise}
use Rattle.merge_order.proofs.Rise.{order_rises}
use Rattle.merge_order.proofs.laws.the_order_rises_where_each_trace_does.Goals as goal

pub returns : goal.returns
returns c = λ moment traces order h rise. order_rises moment traces order h (recursion_from_All (MomentsRise moment) traces rise)
