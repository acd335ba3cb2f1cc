use Rattle.zone_tree.proofs.TwoZones.{backward_apart}
use Rattle.zone_tree.proofs.laws.backward_zones_never_conflict.Goals as goal

pub returns : goal.returns
returns c = backward_apart
