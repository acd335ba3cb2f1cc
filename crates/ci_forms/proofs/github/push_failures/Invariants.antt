-- the commands so far and those of the registers that are left are those of all
use Rattle.std.proofs.Common.{◌≡◌, ◌≤◌, ◌++◌, drop, length, string_bytes}
use Rattle.ci_forms.specs.Facts.{concatenated, facts_of}
use Rattle.ci_forms.specs.GitHub.{failure_commands}
use Rattle.ci_forms.proofs.github.push_failures.Given as goal

abbrev pub invariant-loop-number : goal.invariant-loop-number
invariant-loop-number l = record {
  within : l.number ≤ length l.run.each.now;
  lines : string_bytes l.text ++ concatenated (failure_commands (facts_of l.run) l.number (drop l.number l.run.each.now)) ≡ string_bytes l.fn.text ++ concatenated (failure_commands (facts_of l.fn.run) 0 l.fn.run.each.now);
}
