-- the values so far and those of the domain that are left are all
use Rattle.std.proofs.Common.{◌≡◌, ◌++◌, drop}
use Rattle.records.specs.Allowed.{of_domain}
use Rattle.records.proofs.allowed.add_domain.Given as goal

abbrev pub invariant-loop-value : goal.invariant-loop-value
invariant-loop-value l = l.allowed.items ++ of_domain (drop l.value-index l.domain) ≡ l.fn.allowed.items ++ of_domain l.fn.domain
