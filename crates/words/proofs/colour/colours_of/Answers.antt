use Rattle.std.proofs.Common.{codes, refl}
use Rattle.words.proofs.Arguments.{value_in}
use Rattle.words.proofs.colour.colours_of.Goals as goal

pub returns-in_err-get_str : goal.returns-in_err-get_str
returns-in_err-get_str c = rw (c.from_residual.ensures, value_in c.args.found.now (codes "colour") _ c.in_err-get_str.ensures) refl

pub returns : goal.returns
returns c = rw (value_in c.args.found.now (codes "colour") _ c.in_ok-get_str.ensures) c.colours_in.ensures
