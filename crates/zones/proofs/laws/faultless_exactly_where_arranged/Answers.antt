use Rattle.zones.proofs.Start.{faultless_is_atomic}
use Rattle.zones.proofs.laws.faultless_exactly_where_arranged.Goals as goal

pub returns : goal.returns
returns c = faultless_is_atomic
