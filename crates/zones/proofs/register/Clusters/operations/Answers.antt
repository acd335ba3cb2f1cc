use Rattle.std.proofs.Common.{subst}
use Rattle.intervals.specs.Standing.{HasDistinctMoments, HasEndsAfterBeginnings}
use Rattle.zones.specs.Together.{ClustersModel}
use Rattle.zones.proofs.register.Clusters.operations.Goals as goal

pub returns-clause-apart : goal.returns-clause-apart
returns-clause-apart c =
    subst (λ (x : ClustersModel). HasDistinctMoments x.ops × HasEndsAfterBeginnings x.ops) c.self.view_is (c.self.invariant.apart.kept.moments, c.self.invariant.apart.kept.ends)
