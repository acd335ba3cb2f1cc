use Rattle.report.proofs.Frequency.{falling, keeping}
use Rattle.report.proofs.laws.refusals_come_by_frequency.Goals as goal

pub returns-clause-falls : goal.returns-clause-falls
returns-clause-falls c = falling

pub returns-clause-each : goal.returns-clause-each
returns-clause-each c = keeping
