-- what is explained so far fits what comes next
use Rattle.std.proofs.Common.{◌≤◌, ◌++◌, List, drop, length, map}
use Rattle.std.specs.Prelude.{Vec}
use Rattle.std.specs.declared.alloc.Global.{Global}
use Rattle.records.specs.declared.allowed.Allowed.{Allowed}
use Rattle.records.specs.Explained.{AreAllowed}
use Rattle.records.proofs.explained.explain_all.Given as goal

abbrev pub invariant-loop-number : goal.invariant-loop-number
invariant-loop-number l = record {
  within : l.number ≤ length l.findings.each.now;
  so_far : (others : List (List Allowed)) → AreAllowed l.findings.tower.now l.findings.run.now.closed l.number (drop l.number l.findings.each.now) others
      → AreAllowed l.findings.tower.now l.findings.run.now.closed 0 l.findings.each.now (map (λ (allowed : Vec Allowed Global). allowed.items) l.all.items ++ others);
}
