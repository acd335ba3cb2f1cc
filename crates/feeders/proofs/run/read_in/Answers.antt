use Rattle.std.proofs.Common.{ℕ, List, Vec, length, map, sym, ap, subst, ◌∙◌, arith}
use Rattle.std.specs.List.{range_with_len}
use Rattle.std.proofs.lemmas.List.{length-map, map-id}
use Rattle.std.proofs.lemmas.List.FromFn.{length-map-range_with_len}
use Rattle.std.specs.declared.alloc.Global.{Global}
use Rattle.shards.specs.Plan.{Plan, plan_of}
use Rattle.shards.specs.Pass.{new_pass}
use Rattle.feeders.specs.Progress.{AreFresh}
use Rattle.feeders.specs.Readers.{AreReadOf}
use Rattle.logs.specs.Run.{IsRun}
use Rattle.logs.specs.declared.log.Log.{Log}
use Rattle.feeders.proofs.Split.{err_then, fresh_all, ok_then}
use Rattle.feeders.proofs.Finished.{may_end, read_of, run_of}
use Rattle.feeders.proofs.run.read_in.Goals as goal

pub read_all-requires-clause-fresh : goal.read_all-requires-clause-fresh
read_all-requires-clause-fresh g c κs within = subst (AreFresh g.O.Opening.plan) (sym c.in_ok-auditor.ensures.passes) (fresh_all g.O.Opening.plan 0 _ (omega (arith, c.len-feeders.ensures, ap (λ (plan : Plan). plan.feeders) c.requires.opening)))

pub read_all-requires-clause-each : goal.read_all-requires-clause-each
read_all-requires-clause-each g c κs within = c.in_ok-auditor.passes.ok.0 ∙ ap length c.in_ok-auditor.ensures.passes ∙ length-map-range_with_len (new_pass g.O.Opening.plan) 0 _ ∙ c.len-feeders.ensures

pub returns-clause-run : goal.returns-clause-run
returns-clause-run g c =
    let plan = g.O.Opening.plan in
    let tower = c.args.setup.tower.now in
    let lefts = map g.S.Read.remaining c.args.readers.items in
    let outcomes = c.in_ok-outcomes.outcomes.items in
    let logs = c.in_ok-passes.logs in
    let read = read_of plan tower c.args.setup.field c.in_ok-auditor.passes.items lefts outcomes (rw (c.shared_site.ensures.tower, c.shared_site.ensures.field) at c.in_ok-outcomes.ensures.fed) in
    let many = c.args.readers.ok.0 ∙ sym (length-map c.args.readers.items g.S.Read.remaining) ∙ sym read.many in
    ok_then c.closed_run.result c.closed_run.ensures.run (λ ended is.
    let run : IsRun tower c.args.setup.field c.args.setup.shards (map (λ (trace : List ℕ). trace) read.traces) ended.closed logs.items =
    run_of (λ (trace : List ℕ). trace) plan tower c.args.setup.field c.args.setup.shards read.traces c.in_ok-auditor.passes.items outcomes c.in_ok-passes.passes.items logs.items ended.closed
    (c.requires.opening ∙ ap (plan_of 0 tower c.args.setup.shards) many) (c.in_ok-auditor.ensures.passes ∙ ap (λ (n : ℕ). map (new_pass plan) (range_with_len 0 n)) (c.len-feeders.ensures ∙ many))
    read.are_fed c.in_ok-passes.ensures.passes c.in_ok-passes.ensures.logs is.0 in (
      read.traces,
      subst (λ (ls : List Log). AreReadOf lefts ls read.traces) (sym (ap (λ (v : Vec Log Global). v.items) is.1 ∙ c.in_ok-passes.ensures.logs)) read.are_read,
      subst (λ (traces : List (List ℕ)). IsRun tower c.args.setup.field c.args.setup.shards traces ended.closed ended.logs.items) (map-id read.traces)
          (subst (λ (v : Vec Log Global). IsRun tower c.args.setup.field c.args.setup.shards (map (λ (trace : List ℕ). trace) read.traces) ended.closed v.items) (sym is.1) run),
    ))

pub returns-clause-fault : goal.returns-clause-fault
returns-clause-fault g c =
    let plan = g.O.Opening.plan in
    let lefts = map g.S.Read.remaining c.args.readers.items in
    let outcomes = c.in_ok-outcomes.outcomes.items in
    let read = read_of plan c.args.setup.tower.now c.args.setup.field c.in_ok-auditor.passes.items lefts outcomes (rw (c.shared_site.ensures.tower, c.shared_site.ensures.field) at c.in_ok-outcomes.ensures.fed) in
    let many = c.args.readers.ok.0 ∙ sym (length-map c.args.readers.items g.S.Read.remaining) ∙ sym read.many in
    err_then c.closed_run.result c.closed_run.ensures.fault (λ fault is.
    may_end (λ (trace : List ℕ). trace) plan c.args.setup.tower.now c.args.setup.field read.traces c.in_ok-auditor.passes.items outcomes c.in_ok-passes.passes.items fault
    (ap (λ (plan : Plan). plan.feeders) c.requires.opening ∙ many) (c.in_ok-auditor.ensures.passes ∙ ap (λ (n : ℕ). map (new_pass plan) (range_with_len 0 n)) (c.len-feeders.ensures ∙ many))
    read.are_fed c.in_ok-passes.ensures.passes is)
