-- the shards that are left are kept, and there is room for their locks
use Rattle.std.proofs.Common.{◌≡◌, ◌+◌, vec_len, vec_capacity}
use Rattle.std.specs.Prelude.{All}
use Rattle.shards.specs.Shard.{IsKeptShardOf}
use Rattle.shards.proofs.parts.put_together.Given as goal

abbrev pub invariant-loop-shard : goal.invariant-loop-shard
invariant-loop-shard g l = record {
  kept : All (IsKeptShardOf g.O.Opening.plan) l.shards.items;
  many : vec_len l.locks + vec_len l.shards ≡ vec_len l.fn.shards;
  room : vec_capacity l.locks ≡ vec_capacity l.fn.locks;
  shards : vec_capacity l.shards ≡ vec_capacity l.fn.shards;
}

abbrev pub decreases-loop-shard : goal.decreases-loop-shard
decreases-loop-shard g l = vec_len l.shards
