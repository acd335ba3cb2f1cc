-- the commands so far and those of the traces that are left are those of all
use Rattle.std.proofs.Common.{◌≡◌, ◌≤◌, ◌++◌, drop, length, string_bytes}
use Rattle.ci_forms.specs.Facts.{concatenated, facts_of}
use Rattle.ci_forms.specs.GitHub.{break_commands}
use Rattle.ci_forms.proofs.github.push_breaks.Given as goal

abbrev pub invariant-loop-feeder : goal.invariant-loop-feeder
invariant-loop-feeder l = record {
  within : l.feeder ≤ length l.run.logs.now;
  lines : string_bytes l.text ++ concatenated (break_commands (facts_of l.run) l.feeder (drop l.feeder l.run.logs.now)) ≡ string_bytes l.fn.text ++ concatenated (break_commands (facts_of l.fn.run) 0 l.fn.run.logs.now);
}
