-- the lines so far and those of the registers that are left are those of all
use Rattle.std.proofs.Common.{◌≡◌, ◌≤◌, ◌++◌, drop, length, map}
use Rattle.std.specs.Prelude.{Vec}
use Rattle.std.specs.declared.alloc.Global.{Global}
use Rattle.records.specs.declared.allowed.Allowed.{Allowed}
use Rattle.records.specs.Run.{lines_of, registers_records}
use Rattle.records.proofs.run.RecordWriter.push_registers.Given as goal

abbrev pub invariant-loop-number : goal.invariant-loop-number
invariant-loop-number l = record {
  within : l.number ≤ length l.findings.each.now;
  lines : l.text.items ++ lines_of l.self.notation (registers_records l.self.places.now l.findings.tower.now l.findings.failing.now l.findings.doubts.now l.self.only_failing l.number (drop l.number l.findings.each.now) (map (λ (allowed : Vec Allowed Global). allowed.items) (drop l.number l.allowed)))
      ≡ l.fn.text.items ++ lines_of l.fn.self.notation (registers_records l.fn.self.places.now l.fn.findings.tower.now l.fn.findings.failing.now l.fn.findings.doubts.now l.fn.self.only_failing 0 l.fn.findings.each.now (map (λ (allowed : Vec Allowed Global). allowed.items) l.fn.allowed));
}
