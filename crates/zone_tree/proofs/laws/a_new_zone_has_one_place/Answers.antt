use Rattle.zone_tree.proofs.Places.{members_with, order_with}
use Rattle.zone_tree.proofs.laws.a_new_zone_has_one_place.Goals as goal

pub returns : goal.returns
returns c = record { zones = members_with; order = order_with }
