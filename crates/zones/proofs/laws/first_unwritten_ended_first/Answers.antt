use Rattle.zones.proofs.FirstReads.{unwritten_first, first_is_unwritten, unwritten_none}
use Rattle.zones.proofs.laws.first_unwritten_ended_first.Goals as goal

pub returns : goal.returns
returns c = record {
  first = unwritten_first;
  only = λ initial ops r moments. first_is_unwritten initial ops moments r;
  none = unwritten_none;
}
