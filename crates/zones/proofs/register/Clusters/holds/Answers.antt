use Rattle.std.proofs.Common.{◌↔◌, subst}
use Rattle.std.specs.Prelude.{IsTrue}
use Rattle.intervals.specs.Kind.{IsAtomic}
use Rattle.intervals.specs.Terms.{terms_of}
use Rattle.zones.specs.AtFirst.{start_of}
use Rattle.zones.specs.Fault.{IsFaultless}
use Rattle.zones.specs.Together.{ClustersModel}
use Rattle.zones.proofs.Verdict.{same_as}
use Rattle.zones.proofs.register.Clusters.holds.Goals as goal

pub returns-clause-atomic : goal.returns-clause-atomic
returns-clause-atomic c =
    let now = c.args.self.now in
    let apart = c.self.invariant.apart in
    same_as (IsTrue c.is_faultless.result) (IsFaultless (start_of now.claim now.ops) now.ops) (IsAtomic now.claim now.ops) c.is_faultless.ensures
    (subst (λ (x : ClustersModel). IsFaultless (start_of x.claim x.ops) x.ops ↔ IsAtomic x.claim x.ops) c.self.view_is
    (c.faultless_exactly_where_arranged.ensures (terms_of c.self.inside.claim) c.self.inside.table.ops apart.kept.moments apart.kept.ends (apart.kept.values apart.atomic)))
