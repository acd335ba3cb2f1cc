use Rattle.pairing.proofs.Naming.{on_named_register}
use Rattle.pairing.proofs.laws.steps_are_on_named_registers.Goals as goal

pub returns : goal.returns
returns c = on_named_register
