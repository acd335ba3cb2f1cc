use Rattle.tower_file.proofs.Knowing as knowing
use Rattle.tower_file.proofs.laws.known_unless_atomic.Goals as goal

pub returns : goal.returns
returns c = knowing.known_unless_atomic
