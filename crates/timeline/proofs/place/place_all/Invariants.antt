-- the marks so far have their places, and the wants left are for later ones
use Rattle.std.proofs.Common.{◌≤◌, length}
use Rattle.timeline.proofs.Placing.{ArePlaced}
use Rattle.timeline.proofs.place.place_all.Given as goal

abbrev pub invariant-loop-number : goal.invariant-loop-number
invariant-loop-number l = record {
  within : l.number ≤ length l.steps;
  next : l.next ≤ length l.wants;
  placed : ArePlaced l.steps l.places.items l.wants l.number l.next;
}
