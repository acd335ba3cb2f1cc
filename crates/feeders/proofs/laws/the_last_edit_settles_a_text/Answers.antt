use Rattle.feeders.proofs.TextsStanding.{last_settled}
use Rattle.feeders.proofs.laws.the_last_edit_settles_a_text.Goals as goal

pub returns : goal.returns
returns c = λ plan at register journal legal. last_settled plan at register journal legal
