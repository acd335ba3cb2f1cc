use Rattle.zones.proofs.Start.{no_split, split_first, split_is}
use Rattle.zones.proofs.laws.first_split_ended_first.Goals as goal

pub returns : goal.returns
returns c = record {
  first = split_first;
  split = split_is;
  none = no_split;
}
