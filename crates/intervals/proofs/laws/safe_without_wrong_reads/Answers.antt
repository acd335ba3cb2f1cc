use Rattle.intervals.proofs.Verdicts.{first_wrong-safe}
use Rattle.intervals.proofs.laws.safe_without_wrong_reads.Goals as goal

pub returns : goal.returns
returns c = first_wrong-safe
