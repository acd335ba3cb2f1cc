-- what is found so far, with what will be found in the rest, is found in all
use Rattle.lint.proofs.Found.{GoesOn}
use Rattle.lint.proofs.find.find_all.Given as goal

abbrev pub invariant-loop-number : goal.invariant-loop-number
invariant-loop-number l = GoesOn (λ text. text.now) l.texts l.logs l.number l.traces.items
