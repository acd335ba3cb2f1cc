use Rattle.report.proofs.Doubts.{all_lines, one_line_more}
use Rattle.report.proofs.doubt.note_log.Goals as goal

pub loop-line-preserved : goal.loop-line-preserved
loop-line-preserved c left noted =
    one_line_more c.args.findings.now c.loop-line.doubts.items c.note_line.new.doubts.items c.args.feeder c.args.log.now.lines.items c.deref-line-items.result.now c.loop-line.line-index _
    c.deref-line-items.ensures.value c.loop-line-test.true c.in_ok-note_line.ensures left (c.loop-line.invariant left noted)

pub returns : goal.returns
returns c left noted =
    all_lines c.args.findings.now c.loop-line.doubts.items c.args.feeder c.args.log.now.lines.items c.deref-line-items.result.now c.loop-line.line-index
    c.deref-line-items.ensures.value c.loop-line-test.false left (c.loop-line.invariant left noted)
