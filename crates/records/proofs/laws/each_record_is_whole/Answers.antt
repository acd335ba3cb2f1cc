use Rattle.records.proofs.Shapes.{each_is_record, notice_is}
use Rattle.records.proofs.laws.each_record_is_whole.Goals as goal

pub returns-clause-run : goal.returns-clause-run
returns-clause-run c = each_is_record

pub returns-clause-notices : goal.returns-clause-notices
returns-clause-notices c = notice_is
