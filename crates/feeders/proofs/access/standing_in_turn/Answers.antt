use Rattle.std.proofs.Common.{◌≢◌, subst, sym}
use Rattle.std.specs.Prelude.{IfErr, IfOk}
use Rattle.shards.specs.Alone.{IsRefusalAlone, pass_alone}
use Rattle.shards.specs.declared.fault.ShardFault.TheVariants.{Memory}
use Rattle.shards.specs.Steps.{IsLive, IsRefusal}
use Rattle.feeders.specs.Access.{TurnModel}
use Rattle.feeders.proofs.Split.{err_then, ok_then}
use Rattle.feeders.proofs.access.standing_in_turn.Goals as goal

pub returns-clause-live : goal.returns-clause-live
returns-clause-live g c =
    let plan = g.O.Opening.plan in
    let law = c.a_feeder_alone_is_served_as_with_a_pass.ensures in
    let old = c.turn.inside in
    subst (λ (turn : TurnModel). IfOk c.standing.result (IsLive plan (pass_alone plan turn.feeder turn.journals) (pass_alone plan turn.feeder turn.journals) c.args.register.0)) c.turn.view_is
    (ok_then c.standing.result c.standing.ensures.standing (λ answer is. law.live plan old.auditor old.feeder c.args.register.0 answer c.standing.ensures.legal c.turn.invariant is))

pub returns-clause-refused : goal.returns-clause-refused
returns-clause-refused g c =
    let plan = g.O.Opening.plan in
    let law = c.a_feeder_alone_is_served_as_with_a_pass.ensures in
    let old = c.turn.inside in
    subst (λ (turn : TurnModel). IfErr c.standing.result (λ fault. IsRefusal plan (pass_alone plan turn.feeder turn.journals) c.args.register.0 fault × (fault ≢ Memory))) c.turn.view_is
    (err_then c.standing.result c.standing.ensures.refused
    (λ fault is. (
      law.refused plan old.auditor old.feeder c.args.register.0 fault c.standing.ensures.legal c.turn.invariant (subst (IsRefusalAlone plan c.args.register.0) (sym is.0) is.1),
      λ memory. let unknown = is.0 in absurd (cc),
    )))
