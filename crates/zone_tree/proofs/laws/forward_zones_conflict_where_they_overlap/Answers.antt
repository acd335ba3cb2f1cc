use Rattle.zone_tree.proofs.TwoZones.{forward_zones}
use Rattle.zone_tree.proofs.laws.forward_zones_conflict_where_they_overlap.Goals as goal

pub returns : goal.returns
returns c = forward_zones
