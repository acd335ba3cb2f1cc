use Rattle.std.proofs.Common.{◌≡◌, ◌+◌, refl, sym, subst, arith}
use Rattle.std.specs.Prelude.{Contains, IsSome, Option}
use Rattle.zone_tree.specs.declared.zone.Zone.{Zone}
use Rattle.zone_tree.specs.Edge.{same_edge}
use Rattle.zone_tree.proofs.EdgeOrder.{edge_exact, left_of}
use Rattle.zones.specs.Moves.{IsThere}
use Rattle.zones.proofs.PerValue.{found_standing}
use Rattle.zones.proofs.moves.take.Goals as goal

pub returns-in-Some-clause-freed : goal.returns-in-Some-clause-freed
returns-in-Some-clause-freed c present =
    let zones = c.args.tree.now.zones in
    let h : Contains zones c.in-Some.zone = subst (IsThere zones) c.in-Some.is present in
    let found : IsSome c.remove.result = subst (λ (o : Option Zone). IsSome o) (sym c.remove.ensures.zone) (found_standing left_of same_edge edge_exact zones c.in-Some.zone c.in-Some.zone.left h refl) in
    let free : c.remove.new.self.free ≡ c.args.tree.now.free + 1 = rw found at c.remove.ensures.free in
    omega arith
