use Rattle.std.proofs.Common.{◌+◌, ◌*◌, ◌≤◌, length, sym, ap, subst, arith}
use Rattle.zone_tree.specs.Order.{ZoneContents, StandInOrder, HasNoZoneAt}
use Rattle.zone_tree.specs.Digits.{binary_digits}
use Rattle.zone_tree.proofs.Digits.{digits_above}
use Rattle.zone_tree.proofs.Places.{order_with}
use Rattle.zone_tree.proofs.tree.ZoneTree.insert.Goals as goal

pub invariant_of-self : goal.invariant_of-self
invariant_of-self c =
    let zone = c.args.zone in
    let here = ap (λ (t : ZoneContents). t.zones) c.self.view_is in
    let new = subst (HasNoZoneAt zone.left) (sym here) c.requires.new_edge in
    subst StandInOrder (sym c.insert.ensures.items) (order_with zone c.self.inside.tree.items c.self.invariant new c.requires.edges)

pub returns-clause-steps : goal.returns-clause-steps
returns-clause-steps c =
    let count = length c.self.inside.tree.items in
    let most = c.insert.ensures.steps (binary_digits count) (digits_above count) in
    subst (λ (t : ZoneContents). c.insert.new.self.steps ≤ t.steps + (2 * binary_digits (length t.zones) + 1)) c.self.view_is (omega (arith, most))
