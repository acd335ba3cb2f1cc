use Rattle.std.proofs.Common.{◌≡◌, ◌∙◌, List, Option, Some, None, refl, sym, ap, subst}
use Rattle.zone_tree.specs.declared.zone.Zone.{Zone}
use Rattle.zone_tree.specs.declared.summary.ZoneSummary.{ZoneSummary}
use Rattle.zone_tree.specs.Conflict.{IsClean, IsFirstConflict}
use Rattle.zone_tree.specs.Order.{StandInOrder}
use Rattle.zone_tree.specs.Summary.{no_zones}
use Rattle.zone_tree.specs.Look.{IsMetFirst}
use Rattle.zone_tree.proofs.Summaries.{none_clear}
use Rattle.zone_tree.proofs.Farthest.{first_is_conflict}
use Rattle.zone_tree.proofs.FirstConflicts.{first_from, clean_met}
use Rattle.zone_tree.proofs.tree.ZoneTree.first_conflict.Goals as goal

pub first_meeting-requires : goal.first_meeting-requires
first_meeting-requires c = ap (λ (s : ZoneSummary). s.conflict) c.none.ensures ∙ none_clear

-- the zone that is met first, with no zones seen before
met : (seen : ZoneSummary) (zones : List Zone) (result found : Option Zone) → seen ≡ no_zones → result ≡ found → IsMetFirst seen zones result → IsMetFirst no_zones zones found
met seen zones result found e f is = subst (λ (s : ZoneSummary). IsMetFirst s zones found) e (subst (IsMetFirst seen zones) f is)

pub returns-in_default-clause-none : goal.returns-in_default-clause-none
returns-in_default-clause-none c =
    let zones = c.all-all.result.tree.now.items in
    let order = subst StandInOrder (sym c.all-all.ensures.zones) c.all-all.ensures.order in
    let here : zones ≡ c.args.self.now.zones = c.all-all.ensures.zones in
    let clean = clean_met zones order (met c.none.result zones c.first_meeting.result None c.none.ensures c.in_default.is c.first_meeting.ensures) in
    ((λ _. subst IsClean here clean), (λ _. refl))

pub unreachable-requires : goal.unreachable-requires
unreachable-requires c =
    let zones = c.all-all.result.tree.now.items in
    let order = subst StandInOrder (sym c.all-all.ensures.zones) c.all-all.ensures.order in
    let first = met c.none.result zones c.first_meeting.result (Some c.in-Some.second) c.none.ensures c.in-Some.is c.first_meeting.ensures in
    first_from zones c.in-Some.second order first None (sym c.in_default-last_forward_before.is ∙ c.last_forward_before.ensures)

pub returns-clause-first : goal.returns-clause-first
returns-clause-first c =
    let zones = c.all-all.result.tree.now.items in
    let order = subst StandInOrder (sym c.all-all.ensures.zones) c.all-all.ensures.order in
    let here : zones ≡ c.args.self.now.zones = c.all-all.ensures.zones in
    let first = met c.none.result zones c.first_meeting.result (Some c.in-Some.second) c.none.ensures c.in-Some.is c.first_meeting.ensures in
    let earlier = c.in-Some-last_forward_before.first in
    subst (λ (zs : List Zone). IsFirstConflict zs earlier c.in-Some.second) here
    (first_from zones c.in-Some.second order first (Some earlier) (sym c.in-Some-last_forward_before.is ∙ c.last_forward_before.ensures))

pub returns-clause-none : goal.returns-clause-none
returns-clause-none c =
    let first = returns-clause-first c in
    ((λ e. absurd (cc)), (λ clean. absurd (first_is_conflict c.args.self.now.zones c.in-Some-last_forward_before.first c.in-Some.second first clean)))
