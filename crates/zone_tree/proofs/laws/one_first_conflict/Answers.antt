use Rattle.zone_tree.proofs.Farthest.{first_is_conflict}
use Rattle.zone_tree.proofs.OneFirst.{one_first}
use Rattle.zone_tree.proofs.laws.one_first_conflict.Goals as goal

pub returns : goal.returns
returns c = record { one = one_first; conflict = first_is_conflict }
