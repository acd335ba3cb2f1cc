use Rattle.std.proofs.Common.{◌≡◌, ◌+◌, refl, sym, subst, arith}
use Rattle.std.specs.Prelude.{Contains, IsSome, Option}
use Rattle.zone_tree.specs.declared.stretch.Stretch.{Stretch}
use Rattle.zone_tree.proofs.MomentOrder.{moment_exact}
use Rattle.zones.specs.Faults.{stretch_shape}
use Rattle.zones.specs.Moves.{IsThere}
use Rattle.zones.proofs.PerValue.{found_standing}
use Rattle.zones.proofs.stretch_moves.take.Goals as goal

pub returns-in-Some-clause-freed : goal.returns-in-Some-clause-freed
returns-in-Some-clause-freed c present =
    let stretches = c.args.tree.now.stretches in
    let h : Contains stretches c.in-Some.stretch = subst (IsThere stretches) c.in-Some.is present in
    let found : IsSome c.remove.result = subst (λ (o : Option Stretch). IsSome o) (sym c.remove.ensures.stretch) (found_standing stretch_shape.key stretch_shape.same moment_exact stretches c.in-Some.stretch c.in-Some.stretch.end h refl) in
    let free : c.remove.new.self.free ≡ c.args.tree.now.free + 1 = rw found at c.remove.ensures.free in
    omega arith
