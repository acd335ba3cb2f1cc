use Rattle.intervals.proofs.JudgedAlone.{first_wrong-judged, write_refusal-judged}
use Rattle.intervals.proofs.Verdicts.{IsSafe-judged, IsRegular-judged}
use Rattle.intervals.proofs.laws.judged_operations_alone_count.Goals as goal

pub returns : goal.returns
returns c = record { fault = first_wrong-judged; safe = IsSafe-judged; regular = IsRegular-judged; refusal = write_refusal-judged }
