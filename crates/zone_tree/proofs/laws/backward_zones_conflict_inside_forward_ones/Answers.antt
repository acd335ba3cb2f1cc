use Rattle.zone_tree.proofs.TwoZones.{backward_inside}
use Rattle.zone_tree.proofs.laws.backward_zones_conflict_inside_forward_ones.Goals as goal

pub returns : goal.returns
returns c = backward_inside
