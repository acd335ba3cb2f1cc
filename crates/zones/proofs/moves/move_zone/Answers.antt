use Rattle.std.proofs.Common.{◌+◌, ◌*◌, ◌≤◌, List, length, subst}
use Rattle.zone_tree.specs.declared.zone.Zone.{Zone}
use Rattle.zone_tree.specs.Digits.{binary_digits}
use Rattle.zones.proofs.Lengths.{one_call, two_calls}
use Rattle.zones.proofs.moves.move_zone.Goals as goal

pub returns-in-Some-Some-clause-steps : goal.returns-in-Some-Some-clause-steps
returns-in-Some-Some-clause-steps c =
    one_call c.digits_are_the_least_that_hold_a_number.ensures.above c.args.tree.now.zones c.args.tree.now.steps c.replace.new.self.steps c.replace.ensures.steps

pub returns-in_default-clause-steps : goal.returns-in_default-clause-steps
returns-in_default-clause-steps c =
    two_calls c.digits_are_the_least_that_hold_a_number.ensures.above c.args.gone.now c.args.tree.now.zones c.args.tree.now.steps c.take.new.tree.steps c.put.new.tree.steps
    c.take.ensures.steps
    (subst (λ (l : List Zone). c.put.new.tree.steps ≤ c.take.new.tree.steps + (2 * binary_digits (length l) + 1)) c.take.ensures.zones c.put.ensures.steps)
