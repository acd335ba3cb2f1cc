use Rattle.records.proofs.Telling.{the_records_tell}
use Rattle.records.proofs.laws.the_records_tell_the_report.Goals as goal

pub returns : goal.returns
returns c = the_records_tell
