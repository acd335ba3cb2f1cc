use Rattle.merge_order.proofs.NextHead.{none_waits_for_earlier}
use Rattle.merge_order.proofs.laws.an_element_without_a_moment_waits_for_no_later_trace.Goals as goal

pub returns : goal.returns
returns c = none_waits_for_earlier
