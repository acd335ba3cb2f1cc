use Rattle.words.proofs.Asking.{tower_alone, traces_alone, whole_lint, nothing_to_read, no_lint_form}
use Rattle.words.proofs.laws.looks_in_turn.Goals as goal

pub returns-clause-tower : goal.returns-clause-tower
returns-clause-tower c = tower_alone

pub returns-clause-traces : goal.returns-clause-traces
returns-clause-traces c = traces_alone

pub returns-clause-whole : goal.returns-clause-whole
returns-clause-whole c = whole_lint

pub returns-clause-nothing : goal.returns-clause-nothing
returns-clause-nothing c = nothing_to_read

pub returns-clause-no_form : goal.returns-clause-no_form
returns-clause-no_form c = no_lint_form
