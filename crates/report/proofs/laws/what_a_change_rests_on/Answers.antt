use Rattle.report.proofs.Shown.{rests_as_shown}
use Rattle.report.proofs.laws.what_a_change_rests_on.Goals as goal

pub returns : goal.returns
returns c claim ops witness change about is fault values = rests_as_shown claim ops witness change about is fault values
