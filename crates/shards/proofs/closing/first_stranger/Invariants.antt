use Rattle.std.proofs.Common.{◌≡◌, ℕ, ◌<◌, Some, map}
use Rattle.std.specs.List.{slice_get}
use Rattle.shards.specs.Closing.{ShardModel}
use Rattle.shards.specs.Shard.{AreOwned, held_of}
use Rattle.shards.proofs.closing.first_stranger.Given as goal

-- a pass of its feeder submitted each entry of the shards before this one
abbrev pub invariant-loop-place : goal.invariant-loop-place
invariant-loop-place g l = (place : ℕ) (shard : ShardModel) → place < l.place → slice_get (map held_of l.shards) place ≡ Some shard → AreOwned l.passes place shard.journal
