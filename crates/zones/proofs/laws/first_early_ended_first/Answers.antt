use Rattle.zones.proofs.FirstReads.{early_first, first_is_early, early_none}
use Rattle.zones.proofs.laws.first_early_ended_first.Goals as goal

pub returns : goal.returns
returns c = record {
  first = early_first;
  only = λ initial ops r w moments values. first_is_early ops r w moments values.apart;
  none = early_none;
}
