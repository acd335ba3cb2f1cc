use Rattle.show.proofs.Scenes.{shown_stand}
use Rattle.show.proofs.laws.what_is_shown_is_present.Goals as goal

pub returns : goal.returns
returns c = shown_stand
