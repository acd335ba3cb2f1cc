-- the lines so far and those of the files that are left are all lines
use Rattle.std.proofs.Common.{◌≡◌, ◌≤◌, ◌++◌, drop, length, string_bytes}
use Rattle.lint.specs.Short.{short_text}
use Rattle.lint.proofs.short.push_short.Given as goal

abbrev pub invariant-loop-number : goal.invariant-loop-number
invariant-loop-number l = record {
  within : l.number ≤ length l.traces;
  lines : string_bytes l.text ++ short_text (drop l.number l.sources) (drop l.number l.traces) ≡ string_bytes l.fn.text ++ short_text l.fn.sources l.fn.findings.traces.items;
}
