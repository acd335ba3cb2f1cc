use Rattle.pairing.proofs.Turns.{has_invocation}
use Rattle.pairing.proofs.laws.answers_have_an_invocation.Goals as goal

pub returns : goal.returns
returns c = has_invocation
