use Rattle.std.proofs.Common.{◌≢◌, subst}
use Rattle.shards.specs.declared.fault.ShardFault.TheVariants.{Memory}
use Rattle.shards.specs.Steps.{IsRefusal}
use Rattle.std.specs.Prelude.{IfErr}
use Rattle.shards.specs.Pass.{PassModel}
use Rattle.feeders.proofs.access.Guest.standing.Goals as goal

pub returns-clause-refused : goal.returns-clause-refused
returns-clause-refused g c =
    subst (λ (pass : PassModel). IfErr c.standing.result (λ fault. IsRefusal g.O.Opening.plan pass c.args.register.0 fault × (fault ≢ Memory))) c.self.view_is c.standing.ensures.refused
