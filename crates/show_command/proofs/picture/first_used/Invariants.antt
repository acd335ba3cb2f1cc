-- no register so far has an operation
use Rattle.std.proofs.Common.{ℕ, ◌<◌, ◌≤◌, length}
use Rattle.show_command.specs.Shown.{IsUsed}
use Rattle.show_command.proofs.picture.first_used.Given as goal

abbrev pub invariant-loop-number : goal.invariant-loop-number
invariant-loop-number l = record {
  number : l.number ≤ length l.tower.registers;
  none : (k : ℕ) → k < l.number → ¬ IsUsed l.closed k;
}
