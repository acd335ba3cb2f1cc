use Rattle.zone_tree.proofs.Places.{none_where, keep_without}
use Rattle.zone_tree.proofs.laws.nothing_is_removed_where_no_zone_is.Goals as goal

pub returns : goal.returns
returns c = record {
  none = λ left zones. none_where left zones;
  kept = λ left zones new. keep_without left zones ((none_where left zones).1 new);
}
