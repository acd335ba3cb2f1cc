-- each feeder so far has a pass
use Rattle.std.proofs.Common.{ℕ, ◌<◌}
use Rattle.shards.specs.Closing.{HasPassOf}
use Rattle.shards.proofs.fitting.first_missing.Given as goal

abbrev pub invariant-loop-feeder : goal.invariant-loop-feeder
invariant-loop-feeder l = (lesser : ℕ) → lesser < l.feeder → HasPassOf l.passes lesser
