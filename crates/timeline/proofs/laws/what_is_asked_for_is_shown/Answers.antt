use Rattle.timeline.proofs.Choosing.{asked_is_shown}
use Rattle.timeline.proofs.laws.what_is_asked_for_is_shown.Goals as goal

pub returns : goal.returns
returns c = asked_is_shown
