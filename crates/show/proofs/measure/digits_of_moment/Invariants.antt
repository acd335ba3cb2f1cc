-- each digit leaves less
use Rattle.std.proofs.Common.{◌≤◌}
use Rattle.show.proofs.measure.digits_of_moment.Given as goal

abbrev pub invariant-loop-left : goal.invariant-loop-left
invariant-loop-left l = 1 ≤ l.digits

abbrev pub decreases-loop-left : goal.decreases-loop-left
decreases-loop-left l = l.left
