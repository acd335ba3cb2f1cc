use Rattle.std.proofs.Common.{ap, subst, sym, ◌∙◌}
use Rattle.shards.specs.declared.fault.ShardFault.{ShardFault}
use Rattle.shards.specs.Steps.{IsRefusal}
use Rattle.feeders.specs.Access.{AccessModel, KeepsOthers, access_by}
use Rattle.feeders.proofs.Served.{kept_as, on_ok, refused_as}
use Rattle.feeders.proofs.Turns.{keeps_in_turn, keeps_with_pass}
use Rattle.feeders.proofs.access.Access.submit.Goals.{in-WithPass, in-InTurn}
use Rattle.feeders.proofs.access.Access.submit.Goals as goal

pub returns-clause-refused : goal.returns-clause-refused
returns-clause-refused g c =
    let plan = g.O.Opening.plan in
    let IsRefused : AccessModel → ShardFault → Type 0 = λ access fault. IsRefusal plan access.pass c.args.register.0 fault in
    elim c.match-self.branch [
      | in-WithPass w ↦ refused_as IsRefused c.match-self.result w.submit.result _ c.args.self.now (cc) (ap (access_by plan) (sym w.in-WithPass.is) ∙ c.self.view_is) w.submit.ensures.refused
      | in-InTurn w ↦ refused_as IsRefused c.match-self.result w.submit_in_turn.result _ c.args.self.now (cc) (ap (access_by plan) (sym w.in-InTurn.is) ∙ c.self.view_is) w.submit_in_turn.ensures.refused
    ]

pub returns-clause-others : goal.returns-clause-others
returns-clause-others g c =
    let plan = g.O.Opening.plan in
    elim c.match-self.branch [
      | in-WithPass w ↦ kept_as {P = Unit {0}} c.match-self.result w.submit.result (cc) (on_ok w.submit.result tt) (λ is. keeps_with_pass plan _ c.args.self.now _ (sym (ap (access_by plan) (sym w.in-WithPass.is) ∙ c.self.view_is)))
      | in-InTurn w ↦ kept_as c.match-self.result w.submit_in_turn.result (cc) w.submit_in_turn.ensures.others
          (λ still. subst (λ inside. KeepsOthers plan c.args.self.now (access_by plan inside.by)) (sym w.self-inside-is)
          (keeps_in_turn plan _ c.args.self.now _ (sym (ap (access_by plan) (sym w.in-InTurn.is) ∙ c.self.view_is)) still))
    ]
