use Rattle.timeline.specs.declared.place.Want.{Want}
use Rattle.timeline.proofs.Placing.{later_ones}
use Rattle.timeline.proofs.place.end_of.Goals as goal

pub returns-else-wants-end-clause-left : goal.returns-else-wants-end-clause-left
returns-else-wants-end-clause-left c =
    let none : Want = record { from = 0; to = 0; least = 0 } in
    later_ones c.args.wants.now c.args.mark c.loop-end.end none c.requires.sorted c.loop-end-test.true (c.requires.left c.loop-end.end none c.loop-end.invariant.from c.loop-end-test.true) c.if-wants-end.false
