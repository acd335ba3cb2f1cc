use Rattle.std.proofs.Common.{◌∙◌, length, string_bytes}
use Rattle.report.specs.Culprit.{culprits_of}
use Rattle.report.specs.Doubted.{doubted_text}
use Rattle.report.specs.Summary.{ends_text, failing_text, first_line, holding_text, registers_text}
use Rattle.report.proofs.Summaries.{four_parts, two_parts}
use Rattle.report.proofs.brief.push_summary.Goals as goal

pub returns : goal.returns
returns c =
    let found = c.args.findings.now in
    let tower = found.tower.now in
    let each = found.each.now in
    let logs = found.run.now.logs.items in
    let old = string_bytes c.args.text.now in
    two_parts c.push_ends.result old (string_bytes c.push_registers.new.text) (string_bytes c.push_ends.new.text) (registers_text tower each found.doubts.now logs) (ends_text c.args.least each logs)
    (c.in_ok-push_registers.ensures
    ∙ four_parts old (first_line tower each (length (culprits_of tower each)) logs) (failing_text tower each) (doubted_text tower found.doubts.now) (holding_text tower each))
    c.push_ends.ensures
