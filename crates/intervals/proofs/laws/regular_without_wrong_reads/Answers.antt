use Rattle.intervals.proofs.Verdicts.{first_wrong-regular}
use Rattle.intervals.proofs.laws.regular_without_wrong_reads.Goals as goal

pub returns : goal.returns
returns c = first_wrong-regular
