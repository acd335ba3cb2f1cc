use Rattle.std.proofs.Common.{string_bytes}
use Rattle.report.specs.Few.{few_text}
use Rattle.report.specs.Refused.{refused_text}
use Rattle.report.specs.Summary.{broken_text}
use Rattle.report.proofs.Summaries.{three_parts}
use Rattle.report.proofs.brief.push_ends.Goals as goal

pub returns : goal.returns
returns c =
    let found = c.args.findings.now in
    three_parts c.push_few.result refused_text broken_text found.run.now.logs.items c.deref.result.now c.deref-2.result.now (string_bytes c.args.text.now) (string_bytes c.push_refused.new.text)
    (string_bytes c.push_breaks.new.text) (string_bytes c.push_few.new.text) (few_text c.args.least found.each.now)
    c.deref.ensures.value c.deref-2.ensures.value c.in_ok-push_refused.ensures c.in_ok-push_breaks.ensures c.push_few.ensures
