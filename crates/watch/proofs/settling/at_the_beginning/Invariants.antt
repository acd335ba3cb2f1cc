-- as many as were counted have taken nothing
use Rattle.std.proofs.Common.{◌≡◌, false, replicate}
use Rattle.watch.proofs.settling.at_the_beginning.Given as goal

abbrev pub invariant-loop : goal.invariant-loop
invariant-loop l = l.progress.items ≡ replicate l.counter (record { taken = 0; over = false })
