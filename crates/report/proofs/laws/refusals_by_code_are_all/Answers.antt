use Rattle.report.proofs.Refusals.{by_code}
use Rattle.report.proofs.laws.refusals_by_code_are_all.Goals as goal

pub returns : goal.returns
returns c = by_code
