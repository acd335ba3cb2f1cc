use Rattle.std.proofs.Common.{◌≡◌, Option, sym, subst}
use Rattle.std.specs.Prelude.{IsSomeAnd}
use Rattle.intervals.specs.declared.operation.Value.{Value}
use Rattle.intervals.specs.Terms.{terms_of}
use Rattle.zone_tree.specs.declared.zone.Zone.{Zone}
use Rattle.zone_tree.specs.Conflict.{IsClean}
use Rattle.zones.specs.declared.crossing.Crossing.{Crossing}
use Rattle.zones.specs.AtFirst.{initial_of, start_of}
use Rattle.zones.specs.Cluster.{zones_from}
use Rattle.zones.specs.Crossing.{AreExtremes, HasFirstConflictFrom, IsFirstCrossingFrom}
use Rattle.zones.specs.Together.{ClustersModel}
use Rattle.zones.specs.Zoned.{MayStart}
use Rattle.zones.proofs.Extremes.{first_crossing}
use Rattle.zones.proofs.FirstCrossing.{of_values}
use Rattle.zones.proofs.Front.{first_may, second_may}
use Rattle.zones.proofs.Start.{conflict_from}
use Rattle.zones.proofs.Verdict.{NoneWhere, if_some_and, none_alike}
use Rattle.zones.proofs.register.Clusters.crossing.Goals as goal

pub returns-in_err-first-clause-none : goal.returns-in_err-first-clause-none
returns-in_err-first-clause-none c =
    subst (λ (o : Option Crossing). NoneWhere o (IsClean (zones_from (initial_of c.args.self.now.claim c.args.self.now.ops) c.args.self.now.ops))) (sym c.from_residual.ensures) c.in_err-first.ensures.none

found : (c : goal.After-extremes) → IsSomeAnd c.extremes.result (λ x. IsFirstCrossingFrom (initial_of c.args.self.now.claim c.args.self.now.ops) (start_of c.args.self.now.claim c.args.self.now.ops) c.args.self.now.ops x.a x.b x.c x.d)
found c =
    let claim = terms_of c.self.inside.claim in
    let ops = c.self.inside.table.ops in
    let start = start_of claim ops in
    let first = c.in_ok-first.first in
    let second = c.in_ok-first.second in
    let h : HasFirstConflictFrom (initial_of claim ops) ops first second = subst (λ (x : ClustersModel). HasFirstConflictFrom (initial_of x.claim x.ops) x.ops first second) (sym c.self.view_is) c.in_ok-first.ensures.first in
    let is : c.initial.result ≡ initial_of claim ops = subst (λ (x : ClustersModel). c.initial.result ≡ initial_of x.claim x.ops) (sym c.self.view_is) c.initial.ensures in
    let one : MayStart c.initial.result start first.value = subst (λ (i : Option Value). MayStart i start first.value) (sym is) (first_may claim ops c.self.invariant.apart first second h) in
    let other : MayStart c.initial.result start second.value = subst (λ (i : Option Value). MayStart i start second.value) (sym is) (second_may claim ops c.self.invariant.apart first second h) in
    let conflict = of_values start ops first second (conflict_from (initial_of claim ops) ops first second h) in
    let extremes : IsSomeAnd c.extremes.result (λ x. AreExtremes start ops first.value second.value x.a x.b x.c x.d) =
    c.extremes.ensures start one other c.self.invariant.members_of c.self.invariant.records_of c.self.invariant.apart.kept.ids conflict
    in
    subst (λ (x : ClustersModel). IsSomeAnd c.extremes.result (λ y. IsFirstCrossingFrom (initial_of x.claim x.ops) (start_of x.claim x.ops) x.ops y.a y.b y.c y.d)) c.self.view_is
    (first_crossing (initial_of claim ops) start ops first second c.extremes.result h extremes)

pub returns-clause-first : goal.returns-clause-first
returns-clause-first c =
    let now = c.args.self.now in
    if_some_and (λ x. IsFirstCrossingFrom (initial_of now.claim now.ops) (start_of now.claim now.ops) now.ops x.a x.b x.c x.d) c.extremes.result (found c)

pub returns-clause-none : goal.returns-clause-none
returns-clause-none c =
    let now = c.args.self.now in
    let pair : Zone × Zone = (c.in_ok-first.first, c.in_ok-first.second) in
    none_alike (λ x. IsFirstCrossingFrom (initial_of now.claim now.ops) (start_of now.claim now.ops) now.ops x.a x.b x.c x.d) (IsClean (zones_from (initial_of now.claim now.ops) now.ops)) c.extremes.result pair
    (found c) c.in_ok-first.ensures.none
