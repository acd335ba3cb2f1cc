use Rattle.intervals.specs.Judging.{is_wrong_read, end_number}
use Rattle.intervals.proofs.LeastOf.{least_by-IsLeast}
use Rattle.intervals.proofs.laws.first_wrong_read_ended_first.Goals as goal

pub returns : goal.returns
returns c = λ claim ops r. least_by-IsLeast end_number (is_wrong_read claim ops) ops r
