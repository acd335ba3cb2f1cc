-- what was left out so far, and in the lines that are left, is all
use Rattle.std.proofs.Common.{◌≡◌, ◌++◌, drop}
use Rattle.std.specs.List.{flat_map}
use Rattle.lint.specs.LeftWith.{left_with_line}
use Rattle.lint.proofs.missing.left_with_each.Given as goal

abbrev pub invariant-loop-line : goal.invariant-loop-line
invariant-loop-line l = l.each.items ++ flat_map (left_with_line l.fn.lines) (drop l.line-index l.lines) ≡ flat_map (left_with_line l.fn.lines) l.fn.lines
