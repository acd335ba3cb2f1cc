use Rattle.shards.proofs.OneFault.{one_fault}
use Rattle.shards.proofs.laws.one_closing_fault.Goals as goal

pub returns : goal.returns
returns c = one_fault
