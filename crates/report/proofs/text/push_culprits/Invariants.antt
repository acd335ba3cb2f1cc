-- the lines so far and those of the culprits that are left are theirs
use Rattle.std.proofs.Common.{◌≡◌, ◌++◌, drop, string_bytes}
use Rattle.std.specs.List.{flat_map}
use Rattle.report.specs.Report.{culprit_line}
use Rattle.report.proofs.text.push_culprits.Given as goal

abbrev pub invariant-loop-culprit : goal.invariant-loop-culprit
invariant-loop-culprit l = string_bytes l.text ++ flat_map (culprit_line l.tower.registers) (drop l.culprit-index l.culprits) ≡ string_bytes l.fn.text ++ flat_map (culprit_line l.fn.tower.registers) l.fn.culprits
