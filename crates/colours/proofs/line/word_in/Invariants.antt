-- so many bytes are of the word so far
use Rattle.std.proofs.Common.{length, ◌-◌, ◌≤◌}
use Rattle.colours.proofs.line.word_in.Given as goal

abbrev pub invariant-loop-at : goal.invariant-loop-at
invariant-loop-at l = l.at ≤ length l.line

abbrev pub decreases-loop-at : goal.decreases-loop-at
decreases-loop-at l = length l.line - l.at
