use Rattle.std.proofs.Common.{◌≡◌, ◌↔◌, ◌∙◌, Option, Some, refl, sym, ap, subst}
use Rattle.std.specs.Prelude.{Contains, IfSome, IsSome}
use Rattle.intervals.specs.declared.operation.Value.{Value}
use Rattle.intervals.specs.Terms.{terms_of}
use Rattle.zones.specs.AtFirst.{initial_of, start_of}
use Rattle.zones.specs.Cluster.{values_from, zone_of}
use Rattle.zones.specs.Edges.{AreEdges}
use Rattle.zones.specs.Together.{ClustersModel}
use Rattle.zones.specs.Zoned.{is_that}
use Rattle.zones.proofs.Front.{found_from, initial_among, initial_free, zone_from_start, zone_written}
use Rattle.zones.proofs.register.Clusters.zone_of.Goals as goal

pub returns-then-is_initial-clause-zone : goal.returns-then-is_initial-clause-zone
returns-then-is_initial-clause-zone c =
    let now_is : c.initial.result ≡ initial_of (terms_of c.self.inside.claim) c.self.inside.table.ops = subst (λ (x : ClustersModel). c.initial.result ≡ initial_of x.claim x.ops) (sym c.self.view_is) c.initial.ensures in
    let it_is : c.is_initial.result ≡ is_that (initial_of (terms_of c.self.inside.claim) c.self.inside.table.ops) c.args.value = c.is_initial.ensures ∙ ap (λ (i : Option Value). is_that i c.args.value) now_is in
    let claim = terms_of c.self.inside.claim in
    let ops = c.self.inside.table.ops in
    let it = sym it_is ∙ c.if-is_initial.true in
    subst (λ (x : ClustersModel). c.initial_zone.result ≡ zone_of (start_of x.claim x.ops) x.ops c.args.value) c.self.view_is
    (c.initial_zone.ensures ops c.self.invariant.records_of (initial_free claim ops c.self.invariant.apart c.args.value it) ∙ zone_from_start claim ops c.self.invariant.apart c.args.value it)

pub returns-then-is_initial-clause-written : goal.returns-then-is_initial-clause-written
returns-then-is_initial-clause-written c =
    let now_is : c.initial.result ≡ initial_of (terms_of c.self.inside.claim) c.self.inside.table.ops = subst (λ (x : ClustersModel). c.initial.result ≡ initial_of x.claim x.ops) (sym c.self.view_is) c.initial.ensures in
    let it_is : c.is_initial.result ≡ is_that (initial_of (terms_of c.self.inside.claim) c.self.inside.table.ops) c.args.value = c.is_initial.ensures ∙ ap (λ (i : Option Value). is_that i c.args.value) now_is in
    let it = sym it_is ∙ c.if-is_initial.true in
    subst (λ (x : ClustersModel). IsSome (Some c.initial_zone.result) ↔ Contains (values_from (initial_of x.claim x.ops) x.ops) c.args.value) c.self.view_is
    ((λ some. initial_among (terms_of c.self.inside.claim) c.self.inside.table.ops c.self.invariant.apart c.args.value it), λ h. refl)

pub returns-clause-zone : goal.returns-clause-zone
returns-clause-zone c =
    let ops = c.self.inside.table.ops in
    let are = subst (AreEdges ops c.args.value) (sym c.edges_at.ensures) (c.self.invariant.records_of.edges c.args.value) in
    let is = c.zone_in.ensures ops c.args.value are in
    subst (λ (x : ClustersModel). IfSome c.zone_in.result (λ zone. zone ≡ zone_of (start_of x.claim x.ops) x.ops c.args.value)) c.self.view_is
    (zone_written (terms_of c.self.inside.claim) ops c.self.invariant.apart c.args.value c.zone_in.result is)

pub returns-clause-written : goal.returns-clause-written
returns-clause-written c =
    let now_is : c.initial.result ≡ initial_of (terms_of c.self.inside.claim) c.self.inside.table.ops = subst (λ (x : ClustersModel). c.initial.result ≡ initial_of x.claim x.ops) (sym c.self.view_is) c.initial.ensures in
    let it_is : c.is_initial.result ≡ is_that (initial_of (terms_of c.self.inside.claim) c.self.inside.table.ops) c.args.value = c.is_initial.ensures ∙ ap (λ (i : Option Value). is_that i c.args.value) now_is in
    let ops = c.self.inside.table.ops in
    let other = sym it_is ∙ c.if-is_initial.false in
    let are = subst (AreEdges ops c.args.value) (sym c.edges_at.ensures) (c.self.invariant.records_of.edges c.args.value) in
    let is = c.zone_in.ensures ops c.args.value are in
    subst (λ (x : ClustersModel). IsSome c.zone_in.result ↔ Contains (values_from (initial_of x.claim x.ops) x.ops) c.args.value) c.self.view_is
    (found_from (terms_of c.self.inside.claim) ops c.self.invariant.apart c.args.value other c.zone_in.result is)
