use Rattle.zones.proofs.FirstCrossing.{same_conflict, first_is_one, first_crosses}
use Rattle.zones.proofs.Start.{first_crossing_from}
use Rattle.zones.proofs.laws.one_first_crossing.Goals as goal

pub returns : goal.returns
returns c = record {
  one_conflict = λ initial ops. same_conflict initial ops c.zones_have_one_order.ensures c.one_first_conflict.ensures.one;
  one = λ initial ops a b x d e f g h moments. first_is_one initial ops c.zones_have_one_order.ensures c.one_first_conflict.ensures.one moments a b x d e f g h;
  crossing = first_crosses;
  start = first_crossing_from;
}
