-- the culprits so far and those of the registers that are left are the tower's
use Rattle.std.proofs.Common.{◌≡◌, ◌≤◌, ◌++◌, drop, length}
use Rattle.report.specs.Culprit.{culprits_from}
use Rattle.report.proofs.culprit.culprits_in.Given as goal

abbrev pub invariant-loop-number : goal.invariant-loop-number
invariant-loop-number l = record {
  within : l.number ≤ length l.tower.registers;
  culprits : l.culprits.items ++ culprits_from l.failing l.number (drop l.number l.tower.registers) ≡ culprits_from l.failing 0 l.tower.registers;
}
