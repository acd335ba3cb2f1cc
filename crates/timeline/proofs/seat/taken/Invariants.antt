-- the seats and tails after the operations so far have taken theirs
use Rattle.std.proofs.Common.{◌≤◌, length}
use Rattle.timeline.proofs.Seating.{AreSoFar}
use Rattle.timeline.proofs.seat.taken.Given as goal

abbrev pub invariant-loop-number : goal.invariant-loop-number
invariant-loop-number l = record {
  within : l.number ≤ length l.ops;
  so_far : AreSoFar l.ops l.number l.tails.items l.seats.items;
}
