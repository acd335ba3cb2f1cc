use Rattle.std.proofs.Common.{◌-◌, ◌≤◌, length}
use Rattle.edn_reader.proofs.Within.{Led}
use Rattle.edn_reader.proofs.tokens.read_tokens.Given as goal

abbrev pub invariant-loop-at : goal.invariant-loop-at
invariant-loop-at l = record {
  low : l.fn.from ≤ l.at;
  high : l.at ≤ length l.piece;
  led : Led l.piece l.base l.fn.from l.fn.nesting l.at l.nesting;
}

abbrev pub decreases-loop-at : goal.decreases-loop-at
decreases-loop-at l = length l.piece - l.at
