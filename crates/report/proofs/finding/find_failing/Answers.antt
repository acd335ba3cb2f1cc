use Rattle.std.proofs.Common.{◌∙◌, ap, arith}
use Rattle.report.specs.Finding.{fails_of}
use Rattle.report.proofs.finding.find_failing.Goals as goal

pub returns : goal.returns
returns c = record {
  findings = c.in_ok-findings.findings.items;
  many = omega (arith, c.in_ok-findings.ensures.many);
  found = c.in_ok-findings.ensures.found;
  fails_are = c.in_ok-failing.ensures ∙ ap fails_of c.deref.ensures.value;
}
