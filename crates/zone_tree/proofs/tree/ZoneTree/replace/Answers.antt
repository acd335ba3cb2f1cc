use Rattle.std.proofs.Common.{◌∙◌, ◌+◌, ◌*◌, ◌≤◌, length, List, sym, ap, subst, arith}
use Rattle.std.specs.Prelude.{IsSome}
use Rattle.zone_tree.specs.declared.zone.Zone.{Zone}
use Rattle.zone_tree.specs.Order.{ZoneContents, StandInOrder, with_zone, without_zone_at, zone_at}
use Rattle.zone_tree.specs.Digits.{binary_digits}
use Rattle.zone_tree.proofs.Digits.{digits_above}
use Rattle.zone_tree.proofs.Places.{order_replaced, replaced_anew}
use Rattle.zone_tree.proofs.tree.ZoneTree.replace.Goals as goal

pub invariant_of-self : goal.invariant_of-self
invariant_of-self c =
    let zone = c.args.zone in
    let zones = c.self.inside.tree.items in
    let here = ap (λ (t : ZoneContents). t.zones) c.self.view_is in
    let there = subst (λ (zs : List Zone). IsSome (zone_at zone.left zs)) (sym here) c.requires.there in
    subst StandInOrder (sym (c.replace.ensures.items ∙ replaced_anew zone zones c.self.invariant there)) (order_replaced zone zones c.self.invariant c.requires.edges)

pub returns-clause-zones : goal.returns-clause-zones
returns-clause-zones c =
    let zone = c.args.zone in
    let zones = c.self.inside.tree.items in
    let here = ap (λ (t : ZoneContents). t.zones) c.self.view_is in
    let there = subst (λ (zs : List Zone). IsSome (zone_at zone.left zs)) (sym here) c.requires.there in
    c.replace.ensures.items ∙ replaced_anew zone zones c.self.invariant there ∙ ap (λ (zs : List Zone). with_zone zone (without_zone_at zone.left zs)) here

pub returns-clause-steps : goal.returns-clause-steps
returns-clause-steps c =
    let count = length c.self.inside.tree.items in
    let most = c.replace.ensures.steps (binary_digits count) (digits_above count) in
    subst (λ (t : ZoneContents). c.replace.new.self.steps ≤ t.steps + (2 * binary_digits (length t.zones) + 1)) c.self.view_is (omega (arith, most))
