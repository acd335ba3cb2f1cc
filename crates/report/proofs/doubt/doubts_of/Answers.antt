use Rattle.std.proofs.Common.{subst}
use Rattle.report.proofs.Doubts.{NotesLog, all_logs, one_log_more}
use Rattle.report.proofs.doubt.doubts_of.Goals as goal

pub loop-feeder-preserved : goal.loop-feeder-preserved
loop-feeder-preserved c =
    let findings = c.args.findings.now in
    let old = c.loop-feeder.doubts.items in
    let new = c.note_log.new.doubts.items in
    let feeder = c.loop-feeder.feeder in
    one_log_more findings old new c.args.logs.now feeder c.index-logs-feeder.result c.loop-feeder-test.true
    (subst (NotesLog findings old new feeder) c.index-logs-feeder.is c.in_ok-note_log.ensures) c.loop-feeder.invariant

pub returns : goal.returns
returns c = all_logs c.args.findings.now c.loop-feeder.doubts.items c.args.logs.now c.loop-feeder.feeder c.loop-feeder-test.false c.loop-feeder.invariant
