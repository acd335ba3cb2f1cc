-- the digits so far and those that are left
use Rattle.std.proofs.Common.{◌≡◌, ◌≤◌, ◌+◌, ◌-◌, drop, length}
use Rattle.show.specs.Front.{equal_digits}
use Rattle.show.proofs.front.equal_digits.Given as goal

abbrev pub invariant-loop-many : goal.invariant-loop-many
invariant-loop-many l = record {
  within : l.many ≤ length l.one;
  within_other : l.many ≤ length l.other;
  rest : l.many + equal_digits (drop l.many l.one) (drop l.many l.other) ≡ equal_digits l.one l.other;
}

abbrev pub decreases-loop-many : goal.decreases-loop-many
decreases-loop-many l = length l.one - l.many
