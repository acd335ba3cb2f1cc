use Rattle.std.proofs.Common.{get_or}
use Rattle.shards.proofs.Merged.{as_submitted}
use Rattle.shards.proofs.laws.entries_are_as_submitted.Goals as goal

pub returns : goal.returns
returns c = λ at passes journal merge k d l. as_submitted at (get_or passes k d) journal (merge.of_each k d l)
