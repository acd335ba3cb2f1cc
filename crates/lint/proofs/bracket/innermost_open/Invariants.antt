use Rattle.std.proofs.Common.{◌-◌}
use Rattle.lint.proofs.bracket.innermost_open.Given as goal

abbrev pub decreases-loop-at : goal.decreases-loop-at
decreases-loop-at l = l.end - l.at
