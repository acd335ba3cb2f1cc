use Rattle.std.proofs.Common.{All, Vec, length, map, sym, ap, subst, ◌∙◌, arith}
use Rattle.std.proofs.lemmas.List.Elements.{All-map, All-same}
use Rattle.std.proofs.lemmas.List.FromFn.{length-map-range_with_len}
use Rattle.std.specs.declared.alloc.Global.{Global}
use Rattle.logs.specs.declared.log.Log.{Log}
use Rattle.logs.specs.Run.{IsRun}
use Rattle.shards.specs.Plan.{Plan}
use Rattle.shards.specs.Pass.{new_pass}
use Rattle.feeders.specs.Progress.{AreFresh}
use Rattle.feeders.specs.Readers.{IsNotOfReading}
use Rattle.feeders.proofs.Split.{err_then, fresh_all, ok_then}
use Rattle.feeders.proofs.Finished.{may_end, run_of}
use Rattle.feeders.proofs.run.run_in.Goals as goal

pub feed_all-requires-clause-fresh : goal.feed_all-requires-clause-fresh
feed_all-requires-clause-fresh g c κs within = subst (AreFresh g.O.Opening.plan) (sym c.in_ok-auditor.ensures.passes) (fresh_all g.O.Opening.plan 0 _ (omega (arith, ap (λ (plan : Plan). plan.feeders) c.requires.opening)))

pub feed_all-requires-clause-each : goal.feed_all-requires-clause-each
feed_all-requires-clause-each g c κs within = c.in_ok-auditor.passes.ok.0 ∙ ap length c.in_ok-auditor.ensures.passes ∙ length-map-range_with_len (new_pass g.O.Opening.plan) 0 _

pub returns-clause-run : goal.returns-clause-run
returns-clause-run g c =
    let tower = c.args.setup.tower.now in
    ok_then c.closed_run.result c.closed_run.ensures.run (λ run is.
    subst (λ (logs : Vec Log Global). IsRun tower c.args.setup.field c.args.setup.shards (map (λ trace. trace.now) c.args.traces.now) run.closed logs.items) (sym is.1)
    (run_of (λ trace. trace.now) g.O.Opening.plan tower c.args.setup.field c.args.setup.shards c.args.traces.now c.in_ok-auditor.passes.items c.in_ok-outcomes.outcomes.items c.in_ok-passes.passes.items
    c.in_ok-passes.logs.items run.closed c.requires.opening c.in_ok-auditor.ensures.passes (rw (c.shared_site.ensures.tower, c.shared_site.ensures.field) at c.in_ok-outcomes.ensures.fed) c.in_ok-passes.ensures.passes c.in_ok-passes.ensures.logs is.0))

pub returns-clause-by_text : goal.returns-clause-by_text
returns-clause-by_text g c =
    ok_then c.closed_run.result c.closed_run.ensures.run (λ run is.
    subst (λ (logs : Vec Log Global). All IsNotOfReading logs.items) (sym is.1)
    (All-same IsNotOfReading c.in_ok-passes.logs.items (map (λ fed. fed.log) c.in_ok-outcomes.outcomes.items) c.in_ok-passes.ensures.logs
    (All-map IsNotOfReading (λ fed. fed.log) c.in_ok-outcomes.outcomes.items c.in_ok-outcomes.ensures.by_text)))

pub returns-clause-fault : goal.returns-clause-fault
returns-clause-fault g c =
    err_then c.closed_run.result c.closed_run.ensures.fault (λ fault is.
    may_end (λ trace. trace.now) g.O.Opening.plan c.args.setup.tower.now c.args.setup.field c.args.traces.now c.in_ok-auditor.passes.items c.in_ok-outcomes.outcomes.items c.in_ok-passes.passes.items fault
    (ap (λ (plan : Plan). plan.feeders) c.requires.opening) c.in_ok-auditor.ensures.passes (rw (c.shared_site.ensures.tower, c.shared_site.ensures.field) at c.in_ok-outcomes.ensures.fed) c.in_ok-passes.ensures.passes is)
