-- no operation before the place is a repeat, and the index has the first writes of the values before it
use Rattle.intervals.specs.FirstWrites.{AreFirst}
use Rattle.intervals.specs.Terms.{terms_of}
use Rattle.intervals.proofs.Fronts.{front_of}
use Rattle.intervals.proofs.Repeats.{Walked}
use Rattle.intervals.proofs.repeat.repeat_by_value.Given as goal

abbrev pub invariant-loop-slot : goal.invariant-loop-slot
invariant-loop-slot l = record {
  walked : Walked (terms_of l.claim) l.slots l.slot-index;
  first : AreFirst l.first (front_of l.slots l.slot-index);
}
