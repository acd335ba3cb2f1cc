use Rattle.shards.proofs.PassAlone.{edits_as_before, edits_more}
use Rattle.shards.proofs.laws.an_edit_alone_is_entered_as_submitted.Goals as goal

pub returns : goal.returns
returns c = record { own = edits_more; others = edits_as_before }
