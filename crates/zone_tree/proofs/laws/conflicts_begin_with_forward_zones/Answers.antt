use Rattle.zone_tree.proofs.Farthest.{clean_where_clear}
use Rattle.zone_tree.proofs.laws.conflicts_begin_with_forward_zones.Goals as goal

pub returns : goal.returns
returns c = clean_where_clear
