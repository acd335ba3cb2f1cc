-- the lines so far and those of the findings that are left are all lines
use Rattle.std.proofs.Common.{◌≡◌, ◌++◌, drop, string_bytes}
use Rattle.lint.specs.Short.{short_lines}
use Rattle.lint.proofs.short.push_lines.Given as goal

abbrev pub invariant-loop-finding : goal.invariant-loop-finding
invariant-loop-finding l = string_bytes l.text ++ short_lines l.source.name.now (drop l.finding-index l.findings) ≡ string_bytes l.fn.text ++ short_lines l.fn.source.name.now l.fn.findings
