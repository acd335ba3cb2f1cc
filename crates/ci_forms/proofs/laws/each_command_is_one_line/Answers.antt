use Rattle.ci_forms.proofs.Commands.{break_lines, failure_lines}
use Rattle.ci_forms.proofs.laws.each_command_is_one_line.Goals as goal

pub returns-clause-failures : goal.returns-clause-failures
returns-clause-failures c facts = failure_lines facts 0 facts.findings

pub returns-clause-breaks : goal.returns-clause-breaks
returns-clause-breaks c facts = break_lines facts 0 facts.logs
