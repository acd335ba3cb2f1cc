-- the findings so far are those of the registers so far
use Rattle.std.proofs.Common.{◌≡◌, ◌≤◌, length}
use Rattle.report.specs.Finding.{AreFindings}
use Rattle.report.proofs.finding.find_all.Given as goal

abbrev pub invariant-loop-number : goal.invariant-loop-number
invariant-loop-number l = record {
  within : l.number ≤ length l.tower.registers;
  many : length l.findings.items ≡ l.number;
  found : AreFindings l.closed 0 l.findings.items;
}
