use Rattle.keys.proofs.Once.{comes_last, names_stay, there}
use Rattle.keys.proofs.laws.a_mention_adds_its_name.Goals as goal

pub returns-clause-there : goal.returns-clause-there
returns-clause-there c = there

pub returns-clause-new : goal.returns-clause-new
returns-clause-new c = comes_last

pub returns-clause-known : goal.returns-clause-known
returns-clause-known c = names_stay
