use Rattle.report.specs.Tallied.{tallied}
use Rattle.report.proofs.Frequency.{next_part}
use Rattle.report.proofs.refused.add_parts.Goals as goal

pub loop-part-preserved : goal.loop-part-preserved
loop-part-preserved c =
    next_part c.args.logs.now c.args.parts.now c.loop-part.part-index _ (tallied c.loop-part.tallies.items) (tallied c.add_codes.new.tallies.items) _ c.loop-part-test.true c.in_ok-add_codes.ensures c.loop-part.invariant
