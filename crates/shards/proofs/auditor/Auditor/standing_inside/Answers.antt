use Rattle.shards.proofs.Locked.{live, unanswered}
use Rattle.shards.proofs.auditor.Auditor.standing_inside.Goals as goal

pub returns-clause-live : goal.returns-clause-live
returns-clause-live g c =
    live g.O.Opening.plan c.args.pass.now c.standing.new.pass c.args.sharded.register.0 c.standing.result c.deref-2.result.now c.requires.pass (cc) c.standing.ensures.answer c.standing.ensures.of_shard c.standing.ensures.seen c.standing.ensures.keeping

pub returns-clause-refused : goal.returns-clause-refused
returns-clause-refused g c =
    unanswered g.O.Opening.plan c.args.pass.now c.args.sharded.register.0 c.standing.result c.deref-2.result.now c.requires.pass c.requires.known (cc) c.standing.ensures.of_shard c.standing.ensures.refused
