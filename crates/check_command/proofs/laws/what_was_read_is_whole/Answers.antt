use Rattle.check_command.proofs.Whole.{checked_whole, audited_whole}
use Rattle.check_command.proofs.laws.what_was_read_is_whole.Goals as goal

pub returns-clause-checked : goal.returns-clause-checked
returns-clause-checked c = checked_whole

pub returns-clause-audited : goal.returns-clause-audited
returns-clause-audited c = audited_whole
