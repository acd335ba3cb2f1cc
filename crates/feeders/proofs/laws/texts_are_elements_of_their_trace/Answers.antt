use Rattle.feeders.proofs.TextsRun.{of_trace}
use Rattle.feeders.proofs.laws.texts_are_elements_of_their_trace.Goals as goal

pub returns : goal.returns
returns c = λ tower chosen shards traces closed logs run register held is. of_trace tower chosen shards traces closed logs run register held is
