-- between the given moment and the one that is reached there is no id
use Rattle.std.proofs.Common.{◌≡◌, ◌<◌, ◌≤◌, ◌-◌, ◌^◌, None}
use Rattle.intervals.specs.declared.operation.Moment.{Moment}
use Rattle.intervals.specs.OrderedIndex.{id_at, spot_of}
use Rattle.intervals.proofs.ordered_index.OrderedIndex.first_after.Given as goal

abbrev pub invariant-loop-moment : goal.invariant-loop-moment
invariant-loop-moment l = record {
  reached : l.fn.from.0 ≤ l.after.0;
  none : (m : Moment) → l.fn.from.0 < m.0 → m.0 ≤ l.after.0 → id_at l.self (spot_of l.value m) ≡ None;
}

abbrev pub decreases-loop-moment : goal.decreases-loop-moment
decreases-loop-moment l = 2 ^ 64 - l.after.0
