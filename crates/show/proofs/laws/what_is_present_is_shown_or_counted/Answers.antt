use Rattle.show.proofs.Scenes.{shown_or_counted}
use Rattle.show.proofs.laws.what_is_present_is_shown_or_counted.Goals as goal

pub returns : goal.returns
returns c = λ subject extent scene is. shown_or_counted subject extent scene is c.each_that_is_left_out_is_counted.ensures
