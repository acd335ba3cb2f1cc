use Rattle.std.proofs.Common.{refl}
use Rattle.words.proofs.Arguments.{value_in}
use Rattle.words.proofs.show.is_set.Goals as goal

pub returns-in-Some : goal.returns-in-Some
returns-in-Some c = rw (value_in c.args.found.now c.args.name.now _ c.in-Some.ensures) c.eq.ensures

pub returns-in-None : goal.returns-in-None
returns-in-None c = rw (value_in c.args.found.now c.args.name.now _ c.in-None.ensures) refl
