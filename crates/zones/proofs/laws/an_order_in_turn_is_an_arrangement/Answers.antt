use Rattle.zones.proofs.Existence.{turn_arranges, turn_exists}
use Rattle.zones.proofs.OneTurn.{one_turn}
use Rattle.zones.proofs.laws.an_order_in_turn_is_an_arrangement.Goals as goal

pub returns : goal.returns
returns c = record {
  arranges = turn_arranges;
  exists = turn_exists;
  one = λ initial ops order other moments. one_turn initial ops moments order other;
}
