use Rattle.timeline.proofs.Choosing.{shown_and_hidden}
use Rattle.timeline.proofs.laws.each_is_shown_or_counted.Goals as goal

pub returns : goal.returns
returns c = shown_and_hidden
