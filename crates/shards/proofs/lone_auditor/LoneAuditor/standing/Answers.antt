use Rattle.std.proofs.Common.{subst}
use Rattle.shards.specs.Alone.{AreJournals}
use Rattle.shards.proofs.CallsAlone.{journals_of_shards}
use Rattle.shards.proofs.lone_auditor.LoneAuditor.standing.Goals as goal

pub returns-then-self-register-clause-legal : goal.returns-then-self-register-clause-legal
returns-then-self-register-clause-legal g c =
    subst (AreJournals g.O.Opening.plan) c.self.view_is (journals_of_shards g.O.Opening.plan c.self.inside.shards.items c.self.invariant.0)

pub returns-clause-legal : goal.returns-clause-legal
returns-clause-legal g c =
    subst (AreJournals g.O.Opening.plan) c.self.view_is (journals_of_shards g.O.Opening.plan c.self.inside.shards.items c.self.invariant.0)
