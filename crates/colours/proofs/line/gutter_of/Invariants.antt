-- so many bytes are blanks or digits so far
use Rattle.std.proofs.Common.{length, ◌-◌, ◌≤◌}
use Rattle.colours.proofs.line.gutter_of.Given as goal

abbrev pub invariant-loop-at : goal.invariant-loop-at
invariant-loop-at l = l.at ≤ length l.line

abbrev pub decreases-loop-at : goal.decreases-loop-at
decreases-loop-at l = length l.line - l.at

abbrev pub invariant-loop-sign : goal.invariant-loop-sign
invariant-loop-sign l = l.at ≤ length l.line
