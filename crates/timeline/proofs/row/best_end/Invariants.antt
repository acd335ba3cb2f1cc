-- the best end so far is after the beginning, and not past the last one
use Rattle.std.proofs.Common.{◌≤◌, ◌<◌}
use Rattle.timeline.proofs.row.best_end.Given as goal

abbrev pub invariant-loop-other : goal.invariant-loop-other
invariant-loop-other l = record {
  following : l.start < l.best;
  within : l.best ≤ l.end;
}
