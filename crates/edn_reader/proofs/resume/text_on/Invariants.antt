use Rattle.std.proofs.Common.{◌-◌, ◌≤◌, length}
use Rattle.edn_reader.proofs.Resuming.{SameText}
use Rattle.edn_reader.proofs.resume.text_on.Given as goal

abbrev pub invariant-loop-ahead : goal.invariant-loop-ahead
invariant-loop-ahead l = record {
  low : l.from ≤ l.at;
  within : l.at ≤ length l.bytes;
  same : SameText l.bytes l.from l.at;
}

abbrev pub decreases-loop-ahead : goal.decreases-loop-ahead
decreases-loop-ahead l = length l.bytes - l.at
