use Rattle.shards.proofs.Told.{told-fresh, told-with_own, told-with_own_other, told-with_seen}
use Rattle.shards.proofs.laws.what_was_told_stays.Goals as goal

pub returns-clause-fresh : goal.returns-clause-fresh
returns-clause-fresh c = told-fresh

pub returns-clause-own : goal.returns-clause-own
returns-clause-own c = told-with_own

pub returns-clause-others : goal.returns-clause-others
returns-clause-others c = told-with_own_other

pub returns-clause-seen : goal.returns-clause-seen
returns-clause-seen c = told-with_seen
