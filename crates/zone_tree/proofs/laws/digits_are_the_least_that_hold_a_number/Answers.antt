use Rattle.std.proofs.Common.{refl}
use Rattle.zone_tree.proofs.Digits.{digits_above, digits_least}
use Rattle.zone_tree.proofs.laws.digits_are_the_least_that_hold_a_number.Goals as goal

pub returns : goal.returns
returns c = record { above = digits_above; least = digits_least; zero = refl; seven = refl; eight = refl }
