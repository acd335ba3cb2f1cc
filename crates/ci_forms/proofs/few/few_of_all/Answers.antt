use Rattle.std.proofs.Common.{◌∙◌}
use Rattle.std.proofs.lemmas.Result.{IfOk-weaker}
use Rattle.ci_forms.proofs.TooFew.{all_alone}
use Rattle.ci_forms.proofs.few.few_of_all.Goals as goal

pub returns : goal.returns
returns c = IfOk-weaker c.few_lines.result _ _ (λ text is. is ∙ all_alone c.args.least c.args.findings.now) c.few_lines.ensures
