-- the registers so far
use Rattle.std.proofs.Common.{◌≡◌}
use Rattle.lint.specs.Idle.{unused_among}
use Rattle.lint.proofs.find.unused_in.Given as goal

abbrev pub invariant-loop-number : goal.invariant-loop-number
invariant-loop-number l = record { unused : l.unused.items ≡ unused_among l.closed l.number }
