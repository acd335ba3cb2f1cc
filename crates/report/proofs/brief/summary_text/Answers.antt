use Rattle.std.proofs.Common.{◌∙◌, ◌++◌, ℕ, List, length, ap, subst, sym}
use Rattle.logs.specs.declared.log.Log.{Log}
use Rattle.report.specs.declared.doubt.Doubt.{Doubt}
use Rattle.report.specs.declared.finding.Finding.{Finding}
use Rattle.report.specs.Doubt.{AreDoubts}
use Rattle.report.specs.Finding.{AreFindings}
use Rattle.report.specs.Summary.{summary_text}
use Rattle.report.proofs.brief.summary_text.Goals as goal

pub returns : goal.returns
returns c =
    let tower = c.args.tower.now in
    let logs = c.args.run.now.logs.items in
    let findings = c.deref-5.result.now in
    let doubts = c.deref-8.result.now in
    record {
      findings = findings;
      many = ap (λ (found : List Finding). length found) c.deref-5.ensures.value ∙ c.in_ok-each.ensures.many;
      found = subst (λ (found : List Finding). AreFindings c.args.run.now.closed 0 found) (sym c.deref-5.ensures.value) c.in_ok-each.ensures.found;
      doubts = doubts;
      doubted = subst (λ (found : List Finding). AreDoubts found logs doubts) (c.deref-3.ensures.value ∙ sym c.deref-5.ensures.value)
          (subst (λ (all : List Log). AreDoubts c.deref-3.result.now all doubts) c.deref-4.ensures.value
          (subst (λ (all : List Doubt). AreDoubts c.deref-3.result.now c.deref-4.result.now all) (sym c.deref-8.ensures.value) c.in_ok-doubts.ensures));
      text_is = c.in_ok-push_summary.ensures ∙ ap (λ (text : List ℕ). text ++ summary_text tower c.args.least findings doubts logs) c.new-text.ensures.bytes;
    }
