use Rattle.std.proofs.Common.{codes, refl}
use Rattle.words.proofs.Arguments.{value_in}
use Rattle.words.proofs.words.other_command.Goals as goal

pub returns-in-safe-clause-asks : goal.returns-in-safe-clause-asks
returns-in-safe-clause-asks c = rw (c.in-safe.is, value_in c.args.found.now (codes "TRACE") _ c.get_str.ensures) refl

pub returns-in_ok-colours_of-in-explain-clause-asks : goal.returns-in_ok-colours_of-in-explain-clause-asks
returns-in_ok-colours_of-in-explain-clause-asks c =
    rw (c.in-explain.is, value_in c.args.found.now (codes "CODE") _ c.get_str-in-explain.ensures, ← c.in_ok-colours_of-in-explain.ensures) refl

pub returns-in_ok-get_str-in-tower-clause-asks : goal.returns-in_ok-get_str-in-tower-clause-asks
returns-in_ok-get_str-in-tower-clause-asks c = rw (c.in-tower.is, value_in c.args.found.now (codes "FILE") _ c.get_str-in-tower.ensures, c.in_ok-get_str-in-tower.was) refl

pub returns-in_err-get_str-in-tower-clause-asks : goal.returns-in_err-get_str-in-tower-clause-asks
returns-in_err-get_str-in-tower-clause-asks c = rw (c.from_residual.ensures, c.in-tower.is, value_in c.args.found.now (codes "FILE") _ c.in_err-get_str-in-tower.ensures) refl
