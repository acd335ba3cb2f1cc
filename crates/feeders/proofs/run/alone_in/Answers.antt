use Rattle.std.proofs.Common.{◌≡◌, ◌∙◌, ℕ, List, [], ◌∷◌, ap, map, replicate, subst, sym}
use Rattle.std.specs.List.{range_with_len}
use Rattle.shards.specs.Alone.{pass_alone}
use Rattle.shards.specs.Closing.{IsClosed}
use Rattle.shards.specs.Pass.{PassModel, new_pass}
use Rattle.shards.specs.Plan.{Plan}
use Rattle.logs.specs.Start.{first_start}
use Rattle.feeders.specs.declared.outcome.FeederOutcome.{FeederOutcome}
use Rattle.feeders.specs.Access.{AccessModel}
use Rattle.feeders.specs.Progress.{IsReadAndFed}
use Rattle.feeders.specs.Setting.{setting_of}
use Rattle.feeders.proofs.Finished.{run_alone}
use Rattle.feeders.proofs.run.alone_in.Goals as goal

pub feed_access-requires-clause-fresh : goal.feed_access-requires-clause-fresh
feed_access-requires-clause-fresh g c κs lives =
    let plan = g.O.Opening.plan in
    let none : c.in_ok-auditor.auditor ≡ replicate plan.shards [] = c.in_ok-auditor.ensures.fresh ∙ ap (λ (n : ℕ). replicate n []) (sym (ap (λ (p : Plan). p.shards) c.requires.opening)) in
    let is : c.in_turn-access.result.pass ≡ new_pass plan 0 =
    ap (λ (access : AccessModel). access.pass) c.in_turn-access.ensures ∙ ap (pass_alone plan 0) none ∙ c.a_feeder_alone_is_served_as_with_a_pass.ensures.fresh plan 0 in
    is ∙ ap (new_pass plan) (sym (ap (λ (p : PassModel). p.feeder) is))

pub returns-in-Some-clause-run : goal.returns-in-Some-clause-run
returns-in-Some-clause-run g c =
    let plan = g.O.Opening.plan in
    let tower = c.args.setup.tower.now in
    let chosen = c.args.setup.field in
    let left = g.S.Read.remaining c.args.reader in
    let access = c.feed_access.new.access in
    let auditor = c.in-Some.auditor in
    let outcome : FeederOutcome = record { pass = access.pass; log = c.in_ok-log.log } in
    let feeder : c.in_turn-access.result.pass.feeder ≡ 0 = ap (λ (access : AccessModel). access.pass.feeder) c.in_turn-access.ensures in
    let fed : IsReadAndFed (setting_of plan tower chosen (first_start 0)) left outcome =
    subst (λ (n : ℕ). IsReadAndFed (setting_of plan tower chosen (first_start n)) left outcome) feeder (rw (c.site.ensures.tower, c.site.ensures.field) at c.in_ok-log.ensures.fed) in
    let pass : pass_alone plan 0 auditor ≡ access.pass =
    sym (ap (λ (access : AccessModel). access.pass) c.in-Some.ensures.turn ∙ ap (λ (n : ℕ). pass_alone plan n auditor) fed.is_fed.done.feeder_is) in
    let passes : map (λ feeder. pass_alone plan feeder auditor) (range_with_len 0 plan.feeders) ≡ access.pass ∷ [] =
    ap (λ (n : ℕ). map (λ feeder. pass_alone plan feeder auditor) (range_with_len 0 n)) (ap (λ (p : Plan). p.feeders) c.requires.opening) ∙ ap (λ (p : PassModel). p ∷ []) pass in
    run_alone plan tower chosen c.args.setup.shards left access.pass c.in_ok-log.log c.in_ok-logs.logs.items c.close.result c.requires.opening fed
    c.in_ok-logs.ensures (subst (λ (ps : List PassModel). IsClosed plan ps c.close.result) passes c.close.ensures.closed)
