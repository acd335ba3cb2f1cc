use Rattle.zones.proofs.FirstReads.{faultless_without_firsts}
use Rattle.zones.proofs.Start.{faultless_without_faults}
use Rattle.zones.proofs.laws.faultless_where_no_fault_is_first.Goals as goal

pub returns : goal.returns
returns c = record { initial = faultless_without_firsts; start = faultless_without_faults }
