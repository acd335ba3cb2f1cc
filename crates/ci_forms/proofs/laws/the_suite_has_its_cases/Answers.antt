use Rattle.ci_forms.proofs.Counts.{cases_counted}
use Rattle.ci_forms.proofs.laws.the_suite_has_its_cases.Goals as goal

pub returns : goal.returns
returns c = cases_counted
