-- no register so far fails
use Rattle.std.proofs.Common.{ℕ, ◌<◌, ◌≤◌, length}
use Rattle.report.specs.Culprit.{Fails}
use Rattle.command_parts.proofs.status.any_fails.Given as goal

abbrev pub invariant-loop-number : goal.invariant-loop-number
invariant-loop-number l = record {
  number : l.number ≤ length l.tower.registers;
  none : (k : ℕ) → k < l.number → ¬ Fails l.closed k;
}
