-- no list has changed, and those that there are not have no element
use Rattle.std.proofs.Common.{◌≡◌, ◌-◌, ◌+◌, ℕ, length}
use Rattle.watch.specs.Doubt.{kept_at}
use Rattle.watch.proofs.doubt.LeftSoFar.reach.Given as goal

abbrev pub invariant-loop-alloc : goal.invariant-loop-alloc
invariant-loop-alloc l = (other : ℕ) → kept_at l.self other ≡ kept_at l.fn.self other

abbrev pub decreases-loop-alloc : goal.decreases-loop-alloc
decreases-loop-alloc l = (l.number + 1) - length l.self.by_register.items
