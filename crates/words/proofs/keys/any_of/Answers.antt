use Rattle.std.proofs.Common.{Some, ap, codes}
use Rattle.words.proofs.Arguments.{value_in}
use Rattle.words.proofs.keys.any_of.Goals as goal

pub returns-in-Some : goal.returns-in-Some
returns-in-Some c = rw (value_in c.args.found.now (codes "writers") _ c.in-Some.ensures) c.any_in.ensures

pub returns-in-None : goal.returns-in-None
returns-in-None c = rw (value_in c.args.found.now (codes "writers") _ c.in-None.ensures) (ap Some c.is_atomic.ensures)
