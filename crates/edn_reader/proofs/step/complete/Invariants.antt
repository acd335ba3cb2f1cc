use Rattle.std.proofs.Common.{◌≡◌, length}
use Rattle.edn_reader.specs.Taking.{completed}
use Rattle.edn_reader.proofs.step.complete.Given as goal

abbrev pub invariant-loop-open : goal.invariant-loop-open
invariant-loop-open l = completed l.span l.nesting ≡ completed l.fn.element l.fn.nesting

abbrev pub decreases-loop-open : goal.decreases-loop-open
decreases-loop-open l = length l.nesting
