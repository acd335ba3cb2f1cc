-- between the moment that is reached and the limit there is no id
use Rattle.std.proofs.Common.{◌≡◌, ◌<◌, ◌≤◌, None}
use Rattle.intervals.specs.declared.operation.Moment.{Moment}
use Rattle.intervals.specs.OrderedIndex.{id_at, spot_of}
use Rattle.intervals.proofs.ordered_index.OrderedIndex.last_before.Given as goal

abbrev pub invariant-loop-moment : goal.invariant-loop-moment
invariant-loop-moment l = record {
  reached : l.before.0 ≤ l.fn.limit.0;
  none : (m : Moment) → l.before.0 ≤ m.0 → m.0 < l.fn.limit.0 → id_at l.self (spot_of l.value m) ≡ None;
}

abbrev pub decreases-loop-moment : goal.decreases-loop-moment
decreases-loop-moment l = l.before.0
