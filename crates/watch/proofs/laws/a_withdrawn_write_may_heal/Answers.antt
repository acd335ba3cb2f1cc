use Rattle.watch.proofs.Worked.{heals_in_order, fails_before, heals}
use Rattle.watch.proofs.laws.a_withdrawn_write_may_heal.Goals as goal

pub returns : goal.returns
returns c = record { in_order = heals_in_order; fails = fails_before; holds = heals }
