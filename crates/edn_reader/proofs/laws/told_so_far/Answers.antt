use Rattle.edn_reader.proofs.SoFar.{elements_so_far}
use Rattle.edn_reader.proofs.laws.told_so_far.Goals as goal

pub returns : goal.returns
returns c = elements_so_far
