-- the index has the writes before the place
use Rattle.intervals.specs.InTurn.{AreWritesByBegin}
use Rattle.intervals.proofs.Fronts.{front_of}
use Rattle.intervals.proofs.overlap.writes_in_turn.Given as goal

abbrev pub invariant-loop-slot : goal.invariant-loop-slot
invariant-loop-slot l = AreWritesByBegin l.turn (front_of l.slots l.slot-index)
