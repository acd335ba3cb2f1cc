use Rattle.zones.proofs.Start.{faultless_after_edits}
use Rattle.zones.proofs.laws.faultless_exactly_after_any_edits.Goals as goal

pub returns : goal.returns
returns c = faultless_after_edits
