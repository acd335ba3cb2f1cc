use Rattle.zones.proofs.Cluster.{extremes_cross, extremes_of}
use Rattle.zones.proofs.laws.extremes_of_a_conflict_cross.Goals as goal

pub returns : goal.returns
returns c = record { crossing = extremes_cross; exist = extremes_of }
