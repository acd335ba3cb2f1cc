use Rattle.intervals.proofs.Standing.{standing_apart, carried_out_apart, carried_out_known, standing_known, kind_alone_changes}
use Rattle.intervals.proofs.laws.edits_keep_operations_apart.Goals as goal

pub returns : goal.returns
returns c = record { apart = standing_apart; carried_out = carried_out_apart; known = standing_known; known_after = carried_out_known; claim = kind_alone_changes }
