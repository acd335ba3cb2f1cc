use Rattle.zone_tree.proofs.EdgeOrder.{before_irreflexive, before_transitive, before_cases}
use Rattle.zone_tree.proofs.laws.edges_are_in_one_order.Goals as goal

pub returns : goal.returns
returns c = record { irreflexive = before_irreflexive; transitive = before_transitive; total = before_cases }
