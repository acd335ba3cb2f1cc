use Rattle.std.proofs.Common.{◌%◌, refl, sym, subst}
use Rattle.shards.specs.Steps.{last_entry}
use Rattle.shards.specs.Pass.{PassModel, learnt, with_seen}
use Rattle.feeders.specs.Feeding.{IsFedUpTo}
use Rattle.feeders.proofs.Telling.{feeder_seen}
use Rattle.feeders.proofs.Between.{goes_on}
use Rattle.feeders.proofs.laws.a_pass_may_ask_and_learn_between_two_calls.Goals as goal

pub returns-clause-asked : goal.returns-clause-asked
returns-clause-asked c = λ plan start bytes coming feeding pass after register answer live fed.
    let stays = c.what_was_told_stays.ensures in
    let of_plan = c.a_pass_stays_of_its_plan.ensures in
    let known = last_entry live.journal in
    let at = register % plan.shards in
    subst (λ (p : PassModel). IsFedUpTo plan start bytes coming feeding p) (sym live.seen)
    (goes_on plan start feeding.tower feeding.chosen pass (with_seen pass at known) (feeder_seen pass at known) (of_plan.seen plan pass at known) (λ other. (stays.seen pass at other known).1) feeding.state bytes
    coming feeding.intake fed)

pub returns-clause-learnt : goal.returns-clause-learnt
returns-clause-learnt c = λ plan start bytes coming feeding pass seen fed.
    let stays = c.what_was_told_stays.ensures in
    let of_plan = c.a_pass_stays_of_its_plan.ensures in
    goes_on plan start feeding.tower feeding.chosen pass (learnt pass seen) refl (of_plan.learnt plan pass seen) (λ other. (stays.learnt pass seen other).1) feeding.state bytes coming feeding.intake fed
