use Rattle.std.proofs.Common.{arith, rules}
use Rattle.std.proofs.lemmas.List.Elements.{All-push}
use Rattle.std.proofs.lemmas.List.Sorted.{All-permutation, IsNonDecreasingBy-from_sort_by_key}
use Rattle.shards.specs.declared.shard.Shard.{Shard}
use Rattle.shards.specs.Shard.{IsKeptShardOf}
use Rattle.shards.proofs.parts.take_apart.Goals as goal

pub loop-lock-preserved : goal.loop-lock-preserved
loop-lock-preserved g c = record {
  kept = rw c.push_reserved.ensures.items
      (All-push (IsKeptShardOf g.O.Opening.plan) c.loop-lock.shards.items c.into_shard.result c.loop-lock.invariant.kept c.into_shard.ensures.kept);
  many = omega (arith, c.in-Some.ensures.cases);
  room = omega arith;
  locks = omega arith;
}

pub returns-clause-kept : goal.returns-clause-kept
returns-clause-kept g c =
    All-permutation (IsKeptShardOf g.O.Opening.plan) c.loop-lock.shards.items c.sort_unstable_by_key.new.self.items c.sort_unstable_by_key.ensures.permutation c.loop-lock.invariant.kept

pub returns-clause-in_order : goal.returns-clause-in_order
returns-clause-in_order g c = IsNonDecreasingBy-from_sort_by_key (λ (shard : Shard). shard.at) _ c.sort_unstable_by_key.ensures.sorted (λ a r q k. search rules)
