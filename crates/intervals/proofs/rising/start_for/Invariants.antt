-- the width is never 0
use Rattle.std.proofs.Common.{length, ◌-◌, ◌<◌}
use Rattle.intervals.proofs.rising.start_for.Given as goal

abbrev pub invariant-loop-width : goal.invariant-loop-width
invariant-loop-width g l = 0 < l.width

abbrev pub decreases-loop-width : goal.decreases-loop-width
decreases-loop-width g l = length l.rows - l.width
