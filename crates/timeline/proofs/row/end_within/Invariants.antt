-- no mark so far is further right than the limit
use Rattle.std.proofs.Common.{◌≡◌, ◌+◌, ◌-◌, ◌≤◌, ◌<◌, ◌⊎◌}
use Rattle.std.specs.Prelude.{slice_index}
use Rattle.timeline.proofs.row.end_within.Given as goal

abbrev pub invariant-loop-end : goal.invariant-loop-end
invariant-loop-end l = record {
  following : l.start < l.end;
  within : l.end ≤ l.many;
  row : (l.end ≡ l.start + 1) ⊎ (slice_index l.places (l.end - 1) ≤ l.farthest);
}

abbrev pub decreases-loop-end : goal.decreases-loop-end
decreases-loop-end l = l.many - l.end
