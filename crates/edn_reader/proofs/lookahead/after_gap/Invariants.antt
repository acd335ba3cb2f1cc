use Rattle.std.proofs.Common.{length, ◌-◌, ◌≤◌}
use Rattle.edn_reader.proofs.Skipping.{GapLeft}
use Rattle.edn_reader.proofs.lookahead.after_gap.Given as goal

abbrev pub invariant-loop-at : goal.invariant-loop-at
invariant-loop-at l = record {
  within : l.at ≤ length l.bytes;
  after : l.from ≤ l.at;
  left : GapLeft l.bytes l.from l.at;
}

abbrev pub decreases-loop-at : goal.decreases-loop-at
decreases-loop-at l = length l.bytes - l.at
