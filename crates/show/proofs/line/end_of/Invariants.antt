-- only blanks are passed over
use Rattle.std.proofs.Common.{◌≤◌, length}
use Rattle.show.proofs.line.end_of.Given as goal

abbrev pub invariant-loop-end : goal.invariant-loop-end
invariant-loop-end l = l.end ≤ length l.cells

abbrev pub decreases-loop-end : goal.decreases-loop-end
decreases-loop-end l = l.end
