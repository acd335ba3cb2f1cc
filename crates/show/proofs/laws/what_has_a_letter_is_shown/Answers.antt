use Rattle.show.proofs.Scenes.{lettered_are_shown}
use Rattle.show.proofs.laws.what_has_a_letter_is_shown.Goals as goal

pub returns : goal.returns
returns c = λ subject extent scene op letter is present found. lettered_are_shown subject extent scene is c.what_is_asked_for_is_shown.ensures op letter present found
