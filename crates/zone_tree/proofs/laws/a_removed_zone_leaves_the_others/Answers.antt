use Rattle.zone_tree.proofs.Places.{none_without, members_without, order_left}
use Rattle.zone_tree.proofs.laws.a_removed_zone_leaves_the_others.Goals as goal

pub returns : goal.returns
returns c = record { gone = none_without; zones = members_without; order = order_left }
