use Rattle.report.proofs.Blamed.{are_culprits}
use Rattle.report.proofs.laws.the_culprits_are_those.Goals as goal

pub returns : goal.returns
returns c = are_culprits
