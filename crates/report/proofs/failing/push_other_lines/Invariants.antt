-- the lines so far and those of the registers that are left are theirs
use Rattle.std.proofs.Common.{◌≡◌, ◌++◌, drop, string_bytes}
use Rattle.std.specs.List.{flat_map}
use Rattle.report.specs.Failing.{other_line}
use Rattle.report.proofs.failing.push_other_lines.Given as goal

abbrev pub invariant-loop-id : goal.invariant-loop-id
invariant-loop-id l = string_bytes l.text ++ flat_map (other_line l.findings.tower.now l.findings.each.now l.findings.failing.now) (drop l.id-index l.ids) ≡ string_bytes l.fn.text ++ flat_map (other_line l.fn.findings.tower.now l.fn.findings.each.now l.fn.findings.failing.now) l.fn.ids
