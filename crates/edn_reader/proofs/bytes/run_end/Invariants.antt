use Rattle.std.proofs.Common.{length, ◌-◌, ◌≡◌, ◌+◌, ◌≤◌, drop}
use Rattle.edn_reader.specs.Bytes.{is_run, stretch}
use Rattle.edn_reader.proofs.bytes.run_end.Given as goal

abbrev pub invariant-loop-end : goal.invariant-loop-end
invariant-loop-end l = record {
  within : l.end ≤ length l.input;
  same : l.end + stretch is_run (drop l.end l.input) ≡ l.at + stretch is_run (drop l.at l.input);
}

abbrev pub decreases-loop-end : goal.decreases-loop-end
decreases-loop-end l = length l.input - l.end

abbrev pub invariant-loop-end-2 : goal.invariant-loop-end-2
invariant-loop-end-2 l = record {
  within : l.end ≤ length l.input;
  same : l.end + stretch is_run (drop l.end l.input) ≡ l.at + stretch is_run (drop l.at l.input);
}

abbrev pub decreases-loop-end-2 : goal.decreases-loop-end-2
decreases-loop-end-2 l = length l.input - l.end
