use Rattle.std.proofs.Common.{None}
use Rattle.intervals.specs.Judging.{is_wrong_read, end_number}
use Rattle.intervals.proofs.LeastOf.{least_from-None}
use Rattle.intervals.proofs.laws.none_wrong_without_a_first.Goals as goal

pub returns : goal.returns
returns c = λ claim ops e. (least_from-None end_number (is_wrong_read claim ops) None ops e).1
