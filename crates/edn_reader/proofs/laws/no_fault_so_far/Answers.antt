use Rattle.edn_reader.proofs.Splitting.{viable_so_far}
use Rattle.edn_reader.proofs.laws.no_fault_so_far.Goals as goal

pub returns : goal.returns
returns c = viable_so_far
