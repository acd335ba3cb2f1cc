use Rattle.std.proofs.Common.{length, ◌-◌, ◌≤◌, ℕ}
use Rattle.edn_reader.specs.Flat.{WordsTo}
use Rattle.edn_reader.proofs.flat.vector_end.Given as goal

abbrev pub invariant-loop-at : goal.invariant-loop-at
invariant-loop-at l = record {
  within : l.at ≤ length l.bytes;
  after : l.from ≤ l.at;
  words : (base : ℕ) → WordsTo l.bytes base l.from l.at;
}

abbrev pub decreases-loop-at : goal.decreases-loop-at
decreases-loop-at l = length l.bytes - l.at
