use Rattle.std.proofs.Common.{◌≡◌, ◌↔◌, Bool, not, List, sym, subst}
use Rattle.std.specs.Prelude.{IsTrue}
use Rattle.zone_tree.specs.declared.zone.Zone.{Zone}
use Rattle.zone_tree.specs.Conflict.{IsClean}
use Rattle.zone_tree.specs.Order.{StandInOrder}
use Rattle.zone_tree.proofs.Seams.{clean_where}
use Rattle.zone_tree.proofs.tree.ZoneTree.clean.Goals as goal

pub returns : goal.returns
returns c =
    let zones = c.all.result.tree.now.items in
    let here : zones ≡ c.args.self.now.zones = c.all.ensures.zones in
    let order = subst StandInOrder (sym c.all.ensures.zones) c.all.ensures.order in
    subst (λ (zs : List Zone). IsTrue (not c.conflict.result) ↔ IsClean zs) here
    (subst (λ (b : Bool). IsTrue (not b) ↔ IsClean zones) (sym c.conflict.ensures) (clean_where zones order))
