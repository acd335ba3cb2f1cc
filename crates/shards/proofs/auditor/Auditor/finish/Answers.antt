use Rattle.shards.proofs.Others.{all_closed}
use Rattle.shards.proofs.auditor.Auditor.finish.Goals as goal

pub returns-clause-closed : goal.returns-clause-closed
returns-clause-closed g c =
    all_closed g.O.Opening.plan c.args.self.feeders c.args.passes.items c.close.result c.args.self.feeders_is c.close.ensures.closed c.close.ensures.complete
