-- the findings so far and those of the lines that are left are all findings
use Rattle.std.proofs.Common.{◌≡◌, ◌++◌, drop}
use Rattle.std.specs.List.{flat_map}
use Rattle.lint.specs.Found.{found_of_line}
use Rattle.lint.proofs.find.push_lines.Given as goal

abbrev pub invariant-loop-line : goal.invariant-loop-line
invariant-loop-line l = l.findings.items ++ flat_map (found_of_line l.spots) (drop l.line-index l.lines) ≡ l.fn.findings.items ++ flat_map (found_of_line l.fn.spots) l.fn.lines
