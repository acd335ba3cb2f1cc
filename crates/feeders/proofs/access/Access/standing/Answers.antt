use Rattle.std.proofs.Common.{◌≢◌, ap, sym, ◌∙◌}
use Rattle.shards.specs.declared.fault.ShardFault.{ShardFault}
use Rattle.shards.specs.declared.fault.ShardFault.TheVariants.{Memory}
use Rattle.shards.specs.Steps.{IsRefusal}
use Rattle.feeders.specs.Access.{AccessModel, access_by}
use Rattle.feeders.proofs.Served.{kept_as, on_ok, refused_as}
use Rattle.feeders.proofs.Turns.{keeps_same, keeps_with_pass}
use Rattle.feeders.proofs.access.Access.standing.Goals.{in-WithPass, in-InTurn}
use Rattle.feeders.proofs.access.Access.standing.Goals as goal

pub returns-clause-refused : goal.returns-clause-refused
returns-clause-refused g c =
    let plan = g.O.Opening.plan in
    let IsRefused : AccessModel → ShardFault → Type 0 = λ access fault. IsRefusal plan access.pass c.args.register.0 fault × (fault ≢ Memory) in
    elim c.match-self.branch [
      | in-WithPass w ↦ refused_as IsRefused c.match-self.result w.standing.result _ c.args.self.now (cc) (ap (access_by plan) (sym w.in-WithPass.is) ∙ c.self.view_is) w.standing.ensures.refused
      | in-InTurn w ↦ refused_as IsRefused c.match-self.result w.standing_in_turn.result _ c.args.self.now (cc) (ap (access_by plan) (sym w.in-InTurn.is) ∙ c.self.view_is) w.standing_in_turn.ensures.refused
    ]

pub returns-clause-others : goal.returns-clause-others
returns-clause-others g c =
    let plan = g.O.Opening.plan in
    elim c.match-self.branch [
      | in-WithPass w ↦ kept_as {P = Unit {0}} c.match-self.result w.standing.result (cc) (on_ok w.standing.result tt) (λ is. keeps_with_pass plan _ c.args.self.now _ (sym (ap (access_by plan) (sym w.in-WithPass.is) ∙ c.self.view_is)))
      | in-InTurn w ↦ kept_as {P = Unit {0}} c.match-self.result w.standing_in_turn.result (cc) (on_ok w.standing_in_turn.result tt)
          (λ is. keeps_same plan c.args.self.now _ (ap (λ inside. access_by plan inside.by) w.self-inside-is ∙ ap (access_by plan) (sym w.in-InTurn.is) ∙ c.self.view_is))
    ]
