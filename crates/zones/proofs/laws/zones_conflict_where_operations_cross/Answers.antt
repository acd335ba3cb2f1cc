use Rattle.zones.proofs.Cluster.{crossing_of, conflict_of}
use Rattle.zones.proofs.laws.zones_conflict_where_operations_cross.Goals as goal

pub returns : goal.returns
returns c = record { conflict = crossing_of; crossing = conflict_of }
