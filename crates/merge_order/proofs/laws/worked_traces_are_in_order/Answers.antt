use Rattle.std.proofs.Common.{refl}
use Rattle.merge_order.proofs.laws.worked_traces_are_in_order.Goals as goal

pub returns : goal.returns
returns c = refl
