use Rattle.std.proofs.Common.{◌+◌, ◌*◌, ◌≤◌, length, sym, subst, arith}
use Rattle.zone_tree.specs.Order.{ZoneContents, StandInOrder}
use Rattle.zone_tree.specs.Digits.{binary_digits}
use Rattle.zone_tree.proofs.Digits.{digits_above}
use Rattle.zone_tree.proofs.Places.{order_left}
use Rattle.zone_tree.proofs.tree.ZoneTree.remove.Goals as goal

pub invariant_of-self : goal.invariant_of-self
invariant_of-self c = subst StandInOrder (sym c.remove.ensures.items) (order_left c.args.left c.self.inside.tree.items c.self.invariant)

pub returns-clause-steps : goal.returns-clause-steps
returns-clause-steps c =
    let count = length c.self.inside.tree.items in
    let most = c.remove.ensures.steps (binary_digits count) (digits_above count) in
    subst (λ (t : ZoneContents). c.remove.new.self.steps ≤ t.steps + (2 * binary_digits (length t.zones) + 1)) c.self.view_is (omega (arith, most))
