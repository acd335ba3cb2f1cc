use Rattle.feeders.proofs.Adding.{added}
use Rattle.feeders.proofs.laws.what_a_feeder_has_added.Goals as goal

pub returns : goal.returns
returns c = λ setting bytes next intake pass fed. added setting bytes next intake pass c.told_so_far.ensures fed
