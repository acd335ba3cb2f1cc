use Rattle.watch.proofs.Elements.{elements_in_order}
use Rattle.watch.proofs.laws.a_plain_trace_comes_in_order.Goals as goal

pub returns : goal.returns
returns c = elements_in_order
