-- no operation before the place is a repeat
use Rattle.intervals.specs.Terms.{terms_of}
use Rattle.intervals.proofs.Repeats.{Walked}
use Rattle.intervals.proofs.repeat.repeat_by_pairs.Given as goal

abbrev pub invariant-loop-place : goal.invariant-loop-place
invariant-loop-place l = Walked (terms_of l.claim) l.slots l.place
