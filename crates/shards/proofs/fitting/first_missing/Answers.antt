use Rattle.std.proofs.Common.{below_more}
use Rattle.shards.specs.Closing.{HasPassOf}
use Rattle.shards.proofs.Passes.{has_found}
use Rattle.shards.proofs.fitting.first_missing.Goals as goal

pub loop-feeder-preserved : goal.loop-feeder-preserved
loop-feeder-preserved c =
    below_more (HasPassOf c.args.passes.now) c.loop-feeder.feeder c.loop-feeder.invariant
    (has_found c.pass_of.result c.args.passes.now c.loop-feeder.feeder c.if-is_none.ensures c.pass_of.ensures.found)
