use Rattle.zones.proofs.Excluded.{zones_ordered, zones_apart}
use Rattle.zones.proofs.laws.zones_stand_apart.Goals as goal

pub returns : goal.returns
returns c = record { ordered = zones_ordered; left = zones_apart }
