use Rattle.feeders.proofs.Feeds.{over_by_text, over_fed}
use Rattle.feeders.proofs.feeder.Feeder.end.Goals as goal

pub returns-then-is_over-clause-fed : goal.returns-then-is_over-clause-fed
returns-then-is_over-clause-fed g c start bytes fed = over_fed g.O.Opening.plan start bytes c.args.self.now c.args.access.now.pass (c.is_over.ensures.0 c.if-is_over.true) fed

pub returns-then-is_over-clause-by_text : goal.returns-then-is_over-clause-by_text
returns-then-is_over-clause-by_text g c start bytes fed = over_by_text g.O.Opening.plan start bytes c.args.self.now c.args.access.now.pass (c.is_over.ensures.0 c.if-is_over.true) fed
