-- the shards taken out so far are kept, and there is room for the others
use Rattle.std.proofs.Common.{◌≡◌, ◌+◌, vec_len, vec_capacity}
use Rattle.std.specs.Prelude.{All}
use Rattle.shards.specs.Shard.{IsKeptShardOf}
use Rattle.shards.proofs.parts.take_apart.Given as goal

abbrev pub invariant-loop-lock : goal.invariant-loop-lock
invariant-loop-lock g l = record {
  kept : All (IsKeptShardOf g.O.Opening.plan) l.shards.items;
  many : vec_len l.shards + vec_len l.locks ≡ vec_len l.fn.locks;
  room : vec_capacity l.shards ≡ vec_capacity l.fn.shards;
  locks : vec_capacity l.locks ≡ vec_capacity l.fn.locks;
}

abbrev pub decreases-loop-lock : goal.decreases-loop-lock
decreases-loop-lock g l = vec_len l.locks
