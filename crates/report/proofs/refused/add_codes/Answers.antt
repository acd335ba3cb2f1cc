use Rattle.report.specs.Tallied.{tallied}
use Rattle.report.proofs.Frequency.{next_code}
use Rattle.report.proofs.refused.add_codes.Goals as goal

pub loop-entry-preserved : goal.loop-entry-preserved
loop-entry-preserved c =
    next_code c.args.logs.now c.args.entries.now c.loop-entry.entry-index _ (tallied c.loop-entry.tallies.items) (tallied c.add_code.new.tallies.items) _ c.loop-entry-test.true c.in_ok-add_code.ensures c.loop-entry.invariant
