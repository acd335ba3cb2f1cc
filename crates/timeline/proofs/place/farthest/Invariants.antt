-- the place is the greatest of those so far
use Rattle.std.proofs.Common.{◌≡◌, ◌≤◌, ◌⊎◌, length}
use Rattle.std.specs.List.{AllWithin}
use Rattle.timeline.specs.Place.{IsBounded, IsPutBefore, IsPutBy}
use Rattle.timeline.proofs.place.farthest.Given as goal

abbrev pub invariant-loop-number : goal.invariant-loop-number
invariant-loop-number l = record {
  from : l.from ≤ l.number;
  to : l.number ≤ l.to;
  following : l.least ≤ l.place;
  kept : AllWithin (IsPutBefore l.places l.place) l.wants l.from l.number;
  tight : (l.place ≡ l.least) ⊎ IsPutBy l.places l.wants l.from l.number l.place;
  bounded : IsBounded (length l.places) l.place;
}
