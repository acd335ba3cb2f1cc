use Rattle.zone_tree.proofs.TwoZones.{ordered_where}
use Rattle.zone_tree.proofs.laws.forward_where_the_least_end_is_first.Goals as goal

pub returns : goal.returns
returns c = ordered_where
