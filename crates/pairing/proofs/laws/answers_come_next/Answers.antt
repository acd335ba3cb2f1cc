use Rattle.pairing.proofs.Turns.{first_invokes, alternates}
use Rattle.pairing.proofs.laws.answers_come_next.Goals as goal

pub returns : goal.returns
returns c = record { first = first_invokes; alternate = alternates }
