use Rattle.std.proofs.Common.{arith, rules}
use Rattle.std.proofs.lemmas.List.Elements.{All-take}
use Rattle.std.proofs.lemmas.List.Sorted.{All-permutation}
use Rattle.shards.specs.Shard.{IsKeptShardOf}
use Rattle.shards.proofs.parts.put_together.Goals as goal

pub loop-shard-init : goal.loop-shard-init
loop-shard-init g c = record {
  kept = All-permutation (IsKeptShardOf g.O.Opening.plan) c.args.shards.now.items c.sort_unstable_by_key.new.self.items c.sort_unstable_by_key.ensures.permutation c.requires.kept;
  many = search rules;
  room = search rules;
  shards = search rules;
}

pub loop-shard-preserved : goal.loop-shard-preserved
loop-shard-preserved g c = record {
  kept = rw c.in-Some.ensures.rest (All-take (IsKeptShardOf g.O.Opening.plan) _ c.loop-shard.shards.items c.loop-shard.invariant.kept);
  many = omega (arith, c.in-Some.ensures.cases);
  room = omega arith;
  shards = omega arith;
}
