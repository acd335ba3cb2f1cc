use Rattle.pairing.proofs.Turns.{edits_its_invocation}
use Rattle.pairing.proofs.laws.answers_are_of_their_invocation.Goals as goal

pub returns : goal.returns
returns c = edits_its_invocation
