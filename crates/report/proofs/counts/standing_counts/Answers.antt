use Rattle.std.proofs.Common.{◌∙◌, ℕ, List, subst}
use Rattle.report.specs.Counts.{AreCounts}
use Rattle.report.proofs.counts.standing_counts.Goals as goal

pub returns : goal.returns
returns c = subst (λ (standing : List ℕ). AreCounts standing c.counts_of.result) (c.deref.ensures.value ∙ c.in_ok-each.ensures) c.counts_of.ensures
