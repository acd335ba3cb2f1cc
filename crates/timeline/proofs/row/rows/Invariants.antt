-- the rows so far fit, and the last ends where the next begins
use Rattle.std.proofs.Common.{◌-◌, ◌≤◌, length}
use Rattle.timeline.specs.Row.{AreRowsUpTo}
use Rattle.timeline.proofs.row.rows.Given as goal

abbrev pub invariant-loop-start : goal.invariant-loop-start
invariant-loop-start l = record {
  within : l.start ≤ length l.marks;
  rows : AreRowsUpTo l.places l.width l.starts.items l.start;
}

abbrev pub decreases-loop-start : goal.decreases-loop-start
decreases-loop-start l = length l.marks - l.start
