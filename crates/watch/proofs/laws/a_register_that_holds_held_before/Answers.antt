use Rattle.watch.proofs.Failing.{holds_before}
use Rattle.watch.proofs.laws.a_register_that_holds_held_before.Goals as goal

pub returns : goal.returns
returns c = holds_before
