use Rattle.std.proofs.Common.{◌≡◌, ◌↔◌, ◌∙◌, Some, sym, subst}
use Rattle.std.specs.Prelude.{IfSome, IsNone}
use Rattle.intervals.specs.Terms.{terms_of}
use Rattle.zone_tree.specs.Conflict.{IsClean}
use Rattle.zones.specs.AtFirst.{initial_of}
use Rattle.zones.specs.Cluster.{zone_of, zones_from}
use Rattle.zones.specs.Together.{ClustersModel}
use Rattle.zones.proofs.Start.{initial_not_written}
use Rattle.zones.specs.Crossing.{HasFirstConflictFrom}
use Rattle.zones.proofs.Front.{clean_with, clean_without, conflict_with, conflict_without, front_before, front_in_order}
use Rattle.zones.proofs.register.Clusters.first_conflict.Goals as goal

pub first_conflict_after-requires-clause-edges : goal.first_conflict_after-requires-clause-edges
first_conflict_after-requires-clause-edges c =
    let apart = c.self.invariant.apart in
    let claim = terms_of c.self.inside.claim in
    let ops = c.self.inside.table.ops in
    let is : initial_of claim ops ≡ Some c.in-Some.initial = sym (subst (λ (x : ClustersModel). c.initial.result ≡ initial_of x.claim x.ops) (sym c.self.view_is) c.initial.ensures) ∙ c.in-Some.is in
    let zone : c.initial_zone.result ≡ zone_of c.in-Some.initial ops c.in-Some.initial = c.initial_zone.ensures ops c.self.invariant.records_of (initial_not_written claim ops (apart.kept.values apart.atomic) c.in-Some.initial is) in
    front_in_order (terms_of c.self.inside.claim) c.self.inside.table.ops c.self.invariant.apart c.self.inside.zones.zones c.iter.ensures.order c.self.invariant.zoned
    c.in-Some.initial is c.initial_zone.result zone

pub first_conflict_after-requires-clause-before : goal.first_conflict_after-requires-clause-before
first_conflict_after-requires-clause-before c =
    let apart = c.self.invariant.apart in
    let claim = terms_of c.self.inside.claim in
    let ops = c.self.inside.table.ops in
    let is : initial_of claim ops ≡ Some c.in-Some.initial = sym (subst (λ (x : ClustersModel). c.initial.result ≡ initial_of x.claim x.ops) (sym c.self.view_is) c.initial.ensures) ∙ c.in-Some.is in
    let zone : c.initial_zone.result ≡ zone_of c.in-Some.initial ops c.in-Some.initial = c.initial_zone.ensures ops c.self.invariant.records_of (initial_not_written claim ops (apart.kept.values apart.atomic) c.in-Some.initial is) in
    front_before (terms_of c.self.inside.claim) c.self.inside.table.ops c.self.invariant.apart c.self.inside.zones.zones c.iter.ensures.order c.self.invariant.zoned
    c.in-Some.initial is c.initial_zone.result zone

pub returns-in-Some-clause-first : goal.returns-in-Some-clause-first
returns-in-Some-clause-first c =
    let apart = c.self.invariant.apart in
    let claim = terms_of c.self.inside.claim in
    let ops = c.self.inside.table.ops in
    let is : initial_of claim ops ≡ Some c.in-Some.initial = sym (subst (λ (x : ClustersModel). c.initial.result ≡ initial_of x.claim x.ops) (sym c.self.view_is) c.initial.ensures) ∙ c.in-Some.is in
    let zone : c.initial_zone.result ≡ zone_of c.in-Some.initial ops c.in-Some.initial = c.initial_zone.ensures ops c.self.invariant.records_of (initial_not_written claim ops (apart.kept.values apart.atomic) c.in-Some.initial is) in
    subst (λ (x : ClustersModel). IfSome c.first_conflict_after.result (λ pair. HasFirstConflictFrom (initial_of x.claim x.ops) x.ops pair.0 pair.1)) c.self.view_is
    (conflict_with (terms_of c.self.inside.claim) c.self.inside.table.ops c.self.invariant.apart c.self.inside.zones.zones c.iter.ensures.order c.self.invariant.zoned
    c.in-Some.initial is c.initial_zone.result zone c.first_conflict_after.result c.first_conflict_after.ensures.first)

pub returns-in-Some-clause-none : goal.returns-in-Some-clause-none
returns-in-Some-clause-none c =
    let apart = c.self.invariant.apart in
    let claim = terms_of c.self.inside.claim in
    let ops = c.self.inside.table.ops in
    let is : initial_of claim ops ≡ Some c.in-Some.initial = sym (subst (λ (x : ClustersModel). c.initial.result ≡ initial_of x.claim x.ops) (sym c.self.view_is) c.initial.ensures) ∙ c.in-Some.is in
    let zone : c.initial_zone.result ≡ zone_of c.in-Some.initial ops c.in-Some.initial = c.initial_zone.ensures ops c.self.invariant.records_of (initial_not_written claim ops (apart.kept.values apart.atomic) c.in-Some.initial is) in
    subst (λ (x : ClustersModel). IsNone c.first_conflict_after.result ↔ IsClean (zones_from (initial_of x.claim x.ops) x.ops)) c.self.view_is
    (clean_with (terms_of c.self.inside.claim) c.self.inside.table.ops c.self.invariant.apart c.self.inside.zones.zones c.iter.ensures.order c.self.invariant.zoned
    c.in-Some.initial is c.initial_zone.result zone (IsNone c.first_conflict_after.result) c.first_conflict_after.ensures.none)

pub returns-in-None-clause-first : goal.returns-in-None-clause-first
returns-in-None-clause-first c =
    let none = sym (subst (λ (x : ClustersModel). c.initial.result ≡ initial_of x.claim x.ops) (sym c.self.view_is) c.initial.ensures) ∙ c.in-None.is in
    subst (λ (x : ClustersModel). IfSome c.first_conflict.result (λ pair. HasFirstConflictFrom (initial_of x.claim x.ops) x.ops pair.0 pair.1)) c.self.view_is
    (conflict_without (terms_of c.self.inside.claim) c.self.inside.table.ops c.self.invariant.apart c.self.inside.zones.zones c.iter.ensures.order c.self.invariant.zoned
    none c.first_conflict.result c.first_conflict.ensures.first)

pub returns-in-None-clause-none : goal.returns-in-None-clause-none
returns-in-None-clause-none c =
    let none = sym (subst (λ (x : ClustersModel). c.initial.result ≡ initial_of x.claim x.ops) (sym c.self.view_is) c.initial.ensures) ∙ c.in-None.is in
    subst (λ (x : ClustersModel). IsNone c.first_conflict.result ↔ IsClean (zones_from (initial_of x.claim x.ops) x.ops)) c.self.view_is
    (clean_without (terms_of c.self.inside.claim) c.self.inside.table.ops c.self.invariant.apart c.self.inside.zones.zones c.iter.ensures.order c.self.invariant.zoned
    none (IsNone c.first_conflict.result) c.first_conflict.ensures.none)
