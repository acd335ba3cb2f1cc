-- with the later entries of the shards to come, this is the later entries of all shards
use Rattle.std.proofs.Common.{◌≡◌, ◌++◌, take, drop, length}
use Rattle.shards.specs.Pass.{farther_each}
use Rattle.shards.proofs.seen.take_farther.Given as goal

abbrev pub invariant-loop-at : goal.invariant-loop-at
invariant-loop-at l =
    (length l.mine ≡ length l.others)
    × (take l.at l.mine ++ farther_each (drop l.at l.mine) (drop l.at l.others) ≡ farther_each l.fn.mine l.others)
