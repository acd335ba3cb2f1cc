use Rattle.std.proofs.Common.{codes, refl}
use Rattle.words.proofs.Arguments.{value_in}
use Rattle.words.proofs.check.only_of.Goals as goal

pub returns-in-Some : goal.returns-in-Some
returns-in-Some c = rw (value_in c.args.found.now (codes "only") _ c.in-Some.ensures) c.only_in.ensures

pub returns-in-None : goal.returns-in-None
returns-in-None c = rw (value_in c.args.found.now (codes "only") _ c.in-None.ensures) refl
