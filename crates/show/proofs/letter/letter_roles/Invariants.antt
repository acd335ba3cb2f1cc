-- the letters so far and those of the slots left are all
use Rattle.std.proofs.Common.{◌≡◌, ◌++◌, drop}
use Rattle.show.specs.Letter.{letters_in}
use Rattle.show.proofs.letter.letter_roles.Given as goal

abbrev pub invariant-loop-slot : goal.invariant-loop-slot
invariant-loop-slot l = l.letters.items ++ letters_in (drop l.slot-index l.slots) ≡ l.fn.letters.items ++ letters_in l.fn.slots
