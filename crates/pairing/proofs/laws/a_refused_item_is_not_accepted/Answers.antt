use Rattle.pairing.proofs.Standing.{not_accepted}
use Rattle.pairing.proofs.laws.a_refused_item_is_not_accepted.Goals as goal

pub returns : goal.returns
returns c = not_accepted
