use Rattle.std.proofs.Common.{◌≡◌, ◌∙◌, ap, subst}
use Rattle.std.specs.Prelude.{IfErr, IfOk, OnOk}
use Rattle.shards.specs.Alone.{pass_alone}
use Rattle.shards.specs.Steps.{IsRefusal, IsSubmitted, entered}
use Rattle.feeders.specs.Access.{IsStillInTurn, TurnModel, access_alone}
use Rattle.feeders.proofs.Served.{ok_both, on_ok_of}
use Rattle.feeders.proofs.Split.{err_then, ok_then}
use Rattle.feeders.proofs.Turns.{still_entered}
use Rattle.feeders.proofs.access.submit_in_turn.Goals as goal

pub returns-clause-submitted : goal.returns-clause-submitted
returns-clause-submitted g c =
    let plan = g.O.Opening.plan in
    let law = c.a_feeder_alone_is_served_as_with_a_pass.ensures in
    let old = c.turn.inside in
    subst (λ (turn : TurnModel). IfOk c.submit.result (IsSubmitted plan (pass_alone plan turn.feeder turn.journals) c.args.register c.args.edit.now)) c.turn.view_is
    (ok_then c.submit.result c.submit.ensures.entered (λ receipt is. law.submitted plan old.auditor old.feeder c.args.register c.args.edit.now receipt c.submit.ensures.legal.0 is))

pub returns-clause-told : goal.returns-clause-told
returns-clause-told g c =
    let plan = g.O.Opening.plan in
    let law = c.a_feeder_alone_is_served_as_with_a_pass.ensures in
    let old = c.turn.inside in
    subst (λ (turn : TurnModel). IfOk c.submit.result (λ receipt. pass_alone plan old.feeder c.submit.new.self ≡ entered (pass_alone plan turn.feeder turn.journals) c.args.register c.args.edit.now receipt)) c.turn.view_is
    (ok_both c.submit.result c.submit.ensures.entered c.submit.ensures.journals
    (λ receipt is journals. ap (pass_alone plan old.feeder) journals ∙ law.told plan old.auditor old.feeder c.args.register c.args.edit.now receipt c.submit.ensures.legal.0 is))

pub returns-clause-others : goal.returns-clause-others
returns-clause-others g c =
    let plan = g.O.Opening.plan in
    let law = c.a_feeder_alone_is_served_as_with_a_pass.ensures in
    let old = c.turn.inside in
    subst (λ (turn : TurnModel). OnOk c.submit.result (IsStillInTurn plan turn.feeder turn.journals (access_alone plan old.feeder c.submit.new.self))) c.turn.view_is
    (on_ok_of c.submit.result c.submit.ensures.entered c.submit.ensures.journals
    (λ receipt is journals. still_entered plan old.feeder old.auditor c.submit.new.self c.args.register c.args.edit.now receipt c.submit.ensures.legal.1 journals
    (λ other apart at. law.others plan old.auditor old.feeder c.args.register c.args.edit.now receipt other at apart c.submit.ensures.legal.0 is)))

pub returns-clause-refused : goal.returns-clause-refused
returns-clause-refused g c =
    let plan = g.O.Opening.plan in
    let law = c.a_feeder_alone_is_served_as_with_a_pass.ensures in
    let old = c.turn.inside in
    subst (λ (turn : TurnModel). IfErr c.submit.result (IsRefusal plan (pass_alone plan turn.feeder turn.journals) c.args.register.0)) c.turn.view_is
    (err_then c.submit.result c.submit.ensures.refused (λ fault is. law.refused plan old.auditor old.feeder c.args.register.0 fault c.submit.ensures.legal.0 c.turn.invariant is))
