use Rattle.std.proofs.Common.{codes, refl}
use Rattle.words.proofs.Arguments.{value_in}
use Rattle.words.proofs.tower.tower_of.Goals as goal

pub returns-in-Some-None : goal.returns-in-Some-None
returns-in-Some-None c = rw (value_in c.args.found.now (codes "tower") _ c.in-Some-None.ensures, value_in c.args.found.now (codes "each") _ c.in-Some-None.ensures') refl

pub returns-in-Some-Some : goal.returns-in-Some-Some
returns-in-Some-Some c = rw (value_in c.args.found.now (codes "tower") _ c.in-Some-Some.ensures, value_in c.args.found.now (codes "each") _ c.in-Some-Some.ensures') refl

pub returns-in-None-None : goal.returns-in-None-None
returns-in-None-None c = rw (value_in c.args.found.now (codes "tower") _ c.in-None-None.ensures, value_in c.args.found.now (codes "each") _ c.in-None-None.ensures') refl

pub returns-in_ok-kind_named-in-None-Some : goal.returns-in_ok-kind_named-in-None-Some
returns-in_ok-kind_named-in-None-Some c =
    rw (value_in c.args.found.now (codes "tower") _ c.in-None-Some.ensures, value_in c.args.found.now (codes "each") _ c.in-None-Some.ensures', ← c.in_ok-kind_named-in-None-Some.ensures) refl

pub returns-in_err-kind_named-in-None-Some : goal.returns-in_err-kind_named-in-None-Some
returns-in_err-kind_named-in-None-Some c =
    rw (c.from_residual.ensures, value_in c.args.found.now (codes "tower") _ c.in-None-Some.ensures, value_in c.args.found.now (codes "each") _ c.in-None-Some.ensures', ← c.in_err-kind_named-in-None-Some.ensures) refl
