use Rattle.std.proofs.Common.{codes, refl}
use Rattle.words.proofs.Arguments.{value_in}
use Rattle.words.proofs.check.shards_of.Goals as goal

pub returns-in_err-get_str-clause-asks : goal.returns-in_err-get_str-clause-asks
returns-in_err-get_str-clause-asks c = rw (c.from_residual.ensures, value_in c.args.found.now (codes "shards") _ c.in_err-get_str.ensures) refl

pub returns-clause-asks : goal.returns-clause-asks
returns-clause-asks c = rw (value_in c.args.found.now (codes "shards") _ c.in_ok-get_str.ensures) c.shards_in.ensures.asks
