use Rattle.shards.proofs.Knowing.{learnt_own, learnt_other}
use Rattle.shards.proofs.laws.one_learns_no_less.Goals as goal

pub returns : goal.returns
returns c = record { own = learnt_own; others = learnt_other }
