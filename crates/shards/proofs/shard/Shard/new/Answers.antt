use Rattle.std.proofs.Common.{refl}
use Rattle.shards.specs.Plan.{plan_of}
use Rattle.shards.proofs.Opened.{opened}
use Rattle.shards.proofs.shard.Shard.new.Goals as goal

pub returns-clause-kept : goal.returns-clause-kept
returns-clause-kept c =
    λ name. opened (plan_of name c.args.tower.now c.args.shards c.args.feeders) _ refl c.requires c.new-2.ensures refl c.new-3.ensures.items c.new-4.ensures.items (c.in_ok-open_books.ensures.books name c.args.feeders) c.in_ok-no_counts.ensures.counts c.new.ensures.items
