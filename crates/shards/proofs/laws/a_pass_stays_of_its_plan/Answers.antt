use Rattle.shards.proofs.Told.{IsPassOf-fresh, IsPassOf-learnt, IsPassOf-with_own, IsPassOf-with_seen}
use Rattle.shards.proofs.laws.a_pass_stays_of_its_plan.Goals as goal

pub returns-clause-fresh : goal.returns-clause-fresh
returns-clause-fresh c = IsPassOf-fresh

pub returns-clause-own : goal.returns-clause-own
returns-clause-own c = IsPassOf-with_own

pub returns-clause-seen : goal.returns-clause-seen
returns-clause-seen c = IsPassOf-with_seen

pub returns-clause-learnt : goal.returns-clause-learnt
returns-clause-learnt c = IsPassOf-learnt
