use Rattle.zone_tree.proofs.FirstFound.{first_found}
use Rattle.zone_tree.proofs.laws.a_first_conflict_where_zones_conflict.Goals as goal

pub returns : goal.returns
returns c = first_found
