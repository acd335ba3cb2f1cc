-- the journal suits the passes of the feeders so far
use Rattle.std.proofs.Common.{◌<◌}
use Rattle.std.specs.Prelude.{All}
use Rattle.shards.proofs.Unfit.{Suits}
use Rattle.shards.proofs.fitting.lack_of.Given as goal

abbrev pub invariant-loop-feeder : goal.invariant-loop-feeder
invariant-loop-feeder g l = All (λ pass. pass.feeder < l.feeder → Suits l.place l.journal pass) l.passes
