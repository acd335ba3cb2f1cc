use Rattle.std.proofs.Common.{◌∙◌, [], arith}
use Rattle.shards.proofs.Fresh.{fresh_more}
use Rattle.shards.proofs.auditor.open_passes.Goals as goal

pub loop-feeder-preserved : goal.loop-feeder-preserved
loop-feeder-preserved c = record {
  passes = c.push_reserved.ensures.items
      ∙ fresh_more
      (record { name = c.args.name; shards = c.args.shards; feeders = c.args.feeders; claims = [] })
      c.loop-feeder.feeder _ _ c.loop-feeder.invariant.passes c.in_ok-new.ensures.fresh;
  many = omega arith;
  room = omega arith;
}
