-- the set has the process itself
use Rattle.std.proofs.Common.{ℤ, ◌≡◌, subst, w64}
use Rattle.std.specs.Ordering.{int_cmp}
use Rattle.std.specs.BTreeSet.{contains_by}
use Rattle.std.proofs.lemmas.Int.{to_z-of_z}
use Rattle.lint.proofs.finding.TraceFindings.has_event_of.Goals as goal

pub returns : goal.returns
returns c = subst (λ (process : ℤ). c.contains.result ≡ contains_by (int_cmp process) c.args.self.now.processes) (to_z-of_z w64 c.args.process c.ranges.process) c.contains.ensures
