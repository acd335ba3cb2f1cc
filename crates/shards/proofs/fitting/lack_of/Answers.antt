use Rattle.std.proofs.Common.{refl, arith}
use Rattle.shards.proofs.Passes.{all_below, all_more, all_of_none, all_of_one}
use Rattle.shards.proofs.Unfit.{Suits, fits, unfit}
use Rattle.shards.proofs.fitting.lack_of.Goals as goal
use Rattle.shards.proofs.fitting.lack_of.Goals.{in-Some+in_default-first_lack, in_default}

pub returns-in-Some-first_lack-clause-unfit : goal.returns-in-Some-first_lack-clause-unfit
returns-in-Some-first_lack-clause-unfit g c =
    unfit c.args.passes.now c.args.shard.now.at c.args.place c.loop-feeder.feeder c.in-Some-first_lack.seen c.kept-journal.result.now c.args.shard.now.entries c.in-Some.pass.now
    c.kept-journal.ensures c.if-shard-place.false c.in-Some.ensures.found.1 c.in-Some.ensures.found.0 c.in-Some-first_lack.ensures.following c.loop-feeder.invariant

pub loop-feeder-preserved : goal.loop-feeder-preserved
loop-feeder-preserved g c =
    all_more (Suits c.args.place c.kept-journal.result.now) c.args.passes.now c.loop-feeder.feeder c.loop-feeder.invariant
    (elim c.match-pass_of.branch [
      | in-Some+in_default-first_lack w ↦ all_of_one (Suits c.args.place c.kept-journal.result.now) c.args.passes.now w.in-Some.pass.now c.loop-feeder.feeder c.requires.passes.apart w.in-Some.ensures.found.1 w.in-Some.ensures.found.0
          (record { keeping = w.in_default-first_lack.ensures.keeping refl; rises = w.in_default-first_lack.ensures.rises refl })
      | in_default w ↦ all_of_none (Suits c.args.place c.kept-journal.result.now) c.args.passes.now c.loop-feeder.feeder (w.in_default.ensures.none refl)
    ])

pub returns-clause-none : goal.returns-clause-none
returns-clause-none g c = λ _.
    fits c.args.passes.now c.args.shard.now.at c.args.place c.kept-journal.result.now c.args.shard.now.entries c.kept-journal.ensures c.if-shard-place.false
    (all_below (Suits c.args.place c.kept-journal.result.now) g.O.Opening.plan c.args.passes.now c.loop-feeder.feeder c.requires.passes (omega (arith, c.requires.feeders, c.loop-feeder-test.false)) c.loop-feeder.invariant)

pub returns-clause-rises : goal.returns-clause-rises
returns-clause-rises g c = λ _ k d within.
    (all_below (Suits c.args.place c.kept-journal.result.now) g.O.Opening.plan c.args.passes.now c.loop-feeder.feeder c.requires.passes (omega (arith, c.requires.feeders, c.loop-feeder-test.false)) c.loop-feeder.invariant k d within).rises
