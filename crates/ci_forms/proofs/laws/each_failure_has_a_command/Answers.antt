use Rattle.ci_forms.proofs.Counts.{breaks_counted, failures_counted}
use Rattle.ci_forms.proofs.laws.each_failure_has_a_command.Goals as goal

pub returns-clause-failures : goal.returns-clause-failures
returns-clause-failures c facts = failures_counted facts 0 facts.findings

pub returns-clause-breaks : goal.returns-clause-breaks
returns-clause-breaks c facts = breaks_counted facts 0 facts.logs
