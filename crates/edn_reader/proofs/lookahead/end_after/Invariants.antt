use Rattle.std.proofs.Common.{length, ◌-◌, ◌+◌, ◌≤◌, ◌<◌}
use Rattle.edn_reader.proofs.Skipping.{Scanned}
use Rattle.edn_reader.proofs.lookahead.end_after.Given as goal

abbrev pub invariant-loop-at : goal.invariant-loop-at
invariant-loop-at l = record {
  within : l.at ≤ length l.bytes;
  after : l.fn.front.at < l.at;
  few : l.counts.brackets + l.counts.elements + l.fn.front.at ≤ l.at + 1;
  scanned : Scanned l.bytes l.fn.front.at l.at l.counts;
}

abbrev pub decreases-loop-at : goal.decreases-loop-at
decreases-loop-at l = length l.bytes - l.at
