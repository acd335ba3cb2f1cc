use Rattle.std.proofs.Common.{◌≡◌, ◌∙◌, List, ◌∷◌, Option, Some, None, refl, sym, ap, subst}
use Rattle.std.specs.Prelude.{All}
use Rattle.zone_tree.specs.declared.zone.Zone.{Zone}
use Rattle.zone_tree.specs.declared.summary.ZoneSummary.{ZoneSummary}
use Rattle.zone_tree.specs.Edge.{ComesBefore}
use Rattle.zone_tree.specs.Conflict.{IsClean, IsFirstConflict}
use Rattle.zone_tree.specs.Order.{StandInOrder}
use Rattle.zone_tree.specs.Summary.{one_zone}
use Rattle.zone_tree.specs.Look.{IsMetFirst}
use Rattle.zone_tree.proofs.Farthest.{first_is_conflict}
use Rattle.zone_tree.proofs.InFront.{one_clear, clean_met_in_front, first_in_front}
use Rattle.zone_tree.proofs.tree.ZoneTree.first_conflict_after.Goals as goal

pub first_meeting-requires : goal.first_meeting-requires
first_meeting-requires c = ap (λ (s : ZoneSummary). s.conflict) c.of_one.ensures ∙ one_clear c.args.first.now

-- the zone that is met first, with `first` seen before
met : (first : Zone) (seen : ZoneSummary) (zones : List Zone) (result found : Option Zone) → seen ≡ one_zone first → result ≡ found → IsMetFirst seen zones result → IsMetFirst (one_zone first) zones found
met first seen zones result found e f is = subst (λ (s : ZoneSummary). IsMetFirst s zones found) e (subst (IsMetFirst seen zones) f is)

-- `first` comes before the tree's zones
following : (first : Zone) (zones others : List Zone) → zones ≡ others → All (λ z. ComesBefore first.left z.left) others → All (λ z. ComesBefore first.left z.left) zones
following first zones others e h = subst (All (λ z. ComesBefore first.left z.left)) (sym e) h

pub returns-in_default-clause-none : goal.returns-in_default-clause-none
returns-in_default-clause-none c =
    let zones = c.all-all.result.tree.now.items in
    let order = subst StandInOrder (sym c.all-all.ensures.zones) c.all-all.ensures.order in
    let first = c.args.first.now in
    let here : zones ≡ c.args.self.now.zones = c.all-all.ensures.zones in
    let before = following first zones c.args.self.now.zones here c.requires.before in
    let none = met first c.of_one.result zones c.first_meeting.result None c.of_one.ensures c.in_default.is c.first_meeting.ensures in
    let clean = clean_met_in_front first zones c.requires.edges before order none in
    ((λ _. subst (λ (zs : List Zone). IsClean (first ∷ zs)) here clean), (λ _. refl))

pub returns-in-Some-last_forward_before-clause-first : goal.returns-in-Some-last_forward_before-clause-first
returns-in-Some-last_forward_before-clause-first c =
    let zones = c.all-all.result.tree.now.items in
    let order = subst StandInOrder (sym c.all-all.ensures.zones) c.all-all.ensures.order in
    let first = c.args.first.now in
    let second = c.in-Some.second in
    let here : zones ≡ c.args.self.now.zones = c.all-all.ensures.zones in
    let before = following first zones c.args.self.now.zones here c.requires.before in
    let last = c.in-Some-last_forward_before.last in
    let found = met first c.of_one.result zones c.first_meeting.result (Some second) c.of_one.ensures c.in-Some.is c.first_meeting.ensures in
    subst (λ (zs : List Zone). IsFirstConflict (first ∷ zs) last second) here
    (first_in_front first zones c.requires.edges before order second found (Some last) (sym c.in-Some-last_forward_before.is ∙ c.last_forward_before.ensures))

pub returns-in-Some-last_forward_before-clause-none : goal.returns-in-Some-last_forward_before-clause-none
returns-in-Some-last_forward_before-clause-none c =
    let conflict = returns-in-Some-last_forward_before-clause-first c in
    ((λ e. absurd (cc)), (λ clean. absurd (first_is_conflict (c.args.first.now ∷ c.args.self.now.zones) c.in-Some-last_forward_before.last c.in-Some.second conflict clean)))

pub returns-in-None-clause-first : goal.returns-in-None-clause-first
returns-in-None-clause-first c =
    let zones = c.all-all.result.tree.now.items in
    let order = subst StandInOrder (sym c.all-all.ensures.zones) c.all-all.ensures.order in
    let first = c.args.first.now in
    let second = c.in-Some.second in
    let here : zones ≡ c.args.self.now.zones = c.all-all.ensures.zones in
    let before = following first zones c.args.self.now.zones here c.requires.before in
    let found = met first c.of_one.result zones c.first_meeting.result (Some second) c.of_one.ensures c.in-Some.is c.first_meeting.ensures in
    subst (λ (zs : List Zone). IsFirstConflict (first ∷ zs) first second) here
    (first_in_front first zones c.requires.edges before order second found None (sym c.in-None.is ∙ c.last_forward_before.ensures))

pub returns-in-None-clause-none : goal.returns-in-None-clause-none
returns-in-None-clause-none c =
    let conflict = returns-in-None-clause-first c in
    ((λ e. absurd (cc)), (λ clean. absurd (first_is_conflict (c.args.first.now ∷ c.args.self.now.zones) c.args.first.now c.in-Some.second conflict clean)))
