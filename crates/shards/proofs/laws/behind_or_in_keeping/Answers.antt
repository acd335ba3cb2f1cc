use Rattle.shards.proofs.Knowing.{following_apart, after_once}
use Rattle.shards.proofs.laws.behind_or_in_keeping.Goals as goal

pub returns : goal.returns
returns c = record { apart = following_apart; once = after_once }
