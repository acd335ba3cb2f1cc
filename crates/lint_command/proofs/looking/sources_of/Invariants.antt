-- the files so far have the names so far
use Rattle.std.proofs.Common.{◌≡◌, ◌≤◌, length, map, take}
use Rattle.lint_command.proofs.looking.sources_of.Given as goal

abbrev pub invariant-loop-number : goal.invariant-loop-number
invariant-loop-number l = record {
  within : l.number ≤ length l.names;
  many : length l.sources.items ≡ l.number;
  named : map (λ source. source.name.now) l.sources.items ≡ map (λ name. name.now) (take l.number l.names);
}
