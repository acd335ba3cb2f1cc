use Rattle.std.proofs.Common.{◌≡◌, List, length, map, sym, subst, rules}
use Rattle.std.specs.Vec.Iter.{into_iter_items}
use Rattle.feeders.specs.Progress.{IsReadAndFed}
use Rattle.logs.specs.Start.{first_start}
use Rattle.feeders.specs.Setting.{setting_of}
use Rattle.feeders.specs.declared.outcome.FeederOutcome.{FeederOutcome}
use Rattle.feeders.proofs.Split.{Goes, begins, ends, goes_on, of_given}
use Rattle.feeders.proofs.several.read_in_turn.Goals as goal

pub loop-pair-init : goal.loop-pair-init
loop-pair-init g c =
    let plan = g.O.Opening.plan in
    let remaining = g.S.Read.remaining in
    let passes = c.args.passes.items in
    let pairs = c.in_ok-pairs.pairs.items in
    let are : into_iter_items c.into_iter-pair-iterator.result ≡ pairs = search rules in
    let goes = begins remaining (λ feeder left fed. IsReadAndFed (setting_of plan c.args.site.tower.now c.args.site.field (first_start feeder)) left fed) plan passes (map remaining c.args.readers.items) pairs
    c.in_ok-pairs.ensures.passes (of_given remaining pairs c.args.readers.items c.in_ok-pairs.ensures.given) c.requires.fresh in
    record {
      can_next = tt;
      finite = tt;
      long = search rules;
      goes = subst (λ left. Goes remaining (λ feeder left fed. IsReadAndFed (setting_of plan c.args.site.tower.now c.args.site.field (first_start feeder)) left fed) plan passes (map remaining c.args.readers.items) c.in_ok-outcomes.outcomes.items left) (sym are)
          (subst (λ (before : List FeederOutcome). Goes remaining (λ feeder left fed. IsReadAndFed (setting_of plan c.args.site.tower.now c.args.site.field (first_start feeder)) left fed) plan passes (map remaining c.args.readers.items) before pairs) (sym c.in_ok-outcomes.ensures.items) goes);
      room = search rules;
    }

pub loop-pair-preserved : goal.loop-pair-preserved
loop-pair-preserved g c =
    let remaining = g.S.Read.remaining in
    let left = into_iter_items c.loop-pair.pair-iterator in
    let more = into_iter_items c.next.new.self in
    record {
      can_next = tt;
      finite = tt;
      long = search rules;
      goes = goes_on remaining (λ feeder left fed. IsReadAndFed (setting_of g.O.Opening.plan c.args.site.tower.now c.args.site.field (first_start feeder)) left fed) g.O.Opening.plan c.args.passes.items (map remaining c.args.readers.items)
          c.loop-pair.outcomes.items c.push_reserved.new.self.items left more c.in-Some.pair c.in_ok-feed_reader.field-0 c.loop-pair.invariant.goes c.in-Some.ensures.steps.0 c.in_ok-feed_reader.ensures.fed c.push_reserved.ensures.items;
      room = search rules;
    }

pub returns-clause-fed : goal.returns-clause-fed
returns-clause-fed g c =
    let plan = g.O.Opening.plan in
    let remaining = g.S.Read.remaining in
    let over : length (into_iter_items c.loop-pair.pair-iterator) ≡ 0 = search rules in
    ends remaining (λ feeder left fed. IsReadAndFed (setting_of plan c.args.site.tower.now c.args.site.field (first_start feeder)) left fed) plan c.args.passes.items (map remaining c.args.readers.items) c.loop-pair.outcomes.items
    (into_iter_items c.loop-pair.pair-iterator) c.loop-pair.invariant.goes over
