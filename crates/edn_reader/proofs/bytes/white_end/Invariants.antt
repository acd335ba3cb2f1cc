use Rattle.std.proofs.Common.{length, ◌-◌, ◌≡◌, ◌+◌, ◌≤◌, drop}
use Rattle.edn_reader.specs.Bytes.{is_white, stretch}
use Rattle.edn_reader.proofs.bytes.white_end.Given as goal

abbrev pub invariant-loop-end : goal.invariant-loop-end
invariant-loop-end l = record {
  within : l.end ≤ length l.input;
  same : l.end + stretch is_white (drop l.end l.input) ≡ l.at + stretch is_white (drop l.at l.input);
}

abbrev pub decreases-loop-end : goal.decreases-loop-end
decreases-loop-end l = length l.input - l.end
