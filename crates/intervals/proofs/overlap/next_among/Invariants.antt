-- of the writes before the place that begin after the moment the one found so far begins first
use Rattle.intervals.specs.InTurn.{IsNextWrite}
use Rattle.intervals.proofs.Fronts.{front_of}
use Rattle.intervals.proofs.overlap.next_among.Given as goal

abbrev pub invariant-loop-slot : goal.invariant-loop-slot
invariant-loop-slot l = IsNextWrite (front_of l.slots l.slot-index) l.after l.next
