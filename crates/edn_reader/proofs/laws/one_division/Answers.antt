use Rattle.edn_reader.proofs.Viable as viable
use Rattle.edn_reader.proofs.laws.one_division.Goals as goal

pub returns : goal.returns
returns c = viable.one_division
