use Rattle.report.proofs.Batches.{no_registers}
use Rattle.report.proofs.batch.Batch.new.Goals as goal

pub returns : goal.returns
returns c = λ tower closed first. no_registers tower closed first _ c.new.ensures.bytes c.new-2.ensures.items
