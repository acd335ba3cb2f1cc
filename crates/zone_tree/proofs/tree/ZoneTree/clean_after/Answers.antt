use Rattle.std.proofs.Common.{◌≡◌, ◌∙◌, ◌↔◌, not, List, ◌∷◌, sym, ap, subst}
use Rattle.std.specs.Prelude.{All, IsTrue}
use Rattle.zone_tree.specs.declared.zone.Zone.{Zone}
use Rattle.zone_tree.specs.declared.summary.ZoneSummary.{ZoneSummary}
use Rattle.zone_tree.specs.Edge.{ComesBefore}
use Rattle.zone_tree.specs.Conflict.{IsClean}
use Rattle.zone_tree.specs.Order.{StandInOrder}
use Rattle.zone_tree.specs.Summary.{join_zones, one_zone, summary_of_zones}
use Rattle.zone_tree.proofs.InFront.{clean_in_front}
use Rattle.zone_tree.proofs.tree.ZoneTree.clean_after.Goals as goal

pub returns : goal.returns
returns c =
    let zones = c.all.result.tree.now.items in
    let first = c.args.first.now in
    let here : zones ≡ c.args.self.now.zones = c.all.ensures.zones in
    let order = subst StandInOrder (sym c.all.ensures.zones) c.all.ensures.order in
    let before = subst (All (λ z. ComesBefore first.left z.left)) (sym here) c.requires.before in
    let seen : c.following.result ≡ join_zones (one_zone first) (summary_of_zones zones) = c.following.ensures ∙ ap (λ (s : ZoneSummary). join_zones s (summary_of_zones zones)) c.of_one.ensures in
    subst (λ (zs : List Zone). IsTrue (not c.following.result.conflict) ↔ IsClean (first ∷ zs)) here
    (subst (λ (s : ZoneSummary). IsTrue (not s.conflict) ↔ IsClean (first ∷ zones)) (sym seen) (clean_in_front first zones c.requires.edges before order))
