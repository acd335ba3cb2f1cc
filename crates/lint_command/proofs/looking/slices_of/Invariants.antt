-- the slices so far are of the texts so far
use Rattle.std.proofs.Common.{◌≡◌, ◌≤◌, length, map, take}
use Rattle.lint_command.proofs.looking.slices_of.Given as goal

abbrev pub invariant-loop-number : goal.invariant-loop-number
invariant-loop-number l = record {
  within : l.number ≤ length l.texts;
  lent : map (λ slice. slice.now) l.slices.items ≡ map (λ text. text.items) (take l.number l.texts);
}
