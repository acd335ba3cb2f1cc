use Rattle.feeders.proofs.TextsRun.{of_step}
use Rattle.feeders.proofs.laws.an_entry_is_the_edit_of_a_step.Goals as goal

pub returns : goal.returns
returns c = λ tower chosen shards traces closed logs run at number entry there. of_step tower chosen shards traces closed logs run at number entry there
