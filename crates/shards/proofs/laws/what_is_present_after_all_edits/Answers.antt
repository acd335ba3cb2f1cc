use Rattle.shards.proofs.Legal.{left_as_edited}
use Rattle.shards.proofs.laws.what_is_present_after_all_edits.Goals as goal

pub returns : goal.returns
returns c = left_as_edited
