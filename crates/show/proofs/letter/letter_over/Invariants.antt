-- the letters so far and those of the writes left are all
use Rattle.std.proofs.Common.{◌≡◌, ◌≤◌, ◌++◌, drop, length}
use Rattle.show.specs.Letter.{over_letters}
use Rattle.show.proofs.letter.letter_over.Given as goal

abbrev pub invariant-loop-number : goal.invariant-loop-number
invariant-loop-number l = record {
  within : l.number ≤ length l.over;
  rest : l.letters.items ++ over_letters l.number (drop l.number l.over) ≡ l.initial.letters.items ++ over_letters 0 l.over;
}
