-- each shard so far fits the passes
use Rattle.std.proofs.Common.{map}
use Rattle.shards.specs.Shard.{held_of}
use Rattle.shards.proofs.Unfit.{FitBelow}
use Rattle.shards.proofs.fitting.first_unfit.Given as goal

abbrev pub invariant-loop-place : goal.invariant-loop-place
invariant-loop-place g l = FitBelow l.passes (map held_of l.shards) l.place
