-- each shard so far is told
use Rattle.std.proofs.Common.{ℕ, ◌<◌}
use Rattle.shards.specs.Closing.{changes_of}
use Rattle.watch.specs.Noted.{IsToldOf}
use Rattle.watch.specs.Watched.{changes_in}
use Rattle.watch.proofs.compare.are_changes.Given as goal

abbrev pub invariant-loop-at : goal.invariant-loop-at
invariant-loop-at l = (k : ℕ) → k < l.at → IsToldOf l.stopped (changes_in l.shards k l.notices) (changes_of l.closed k)
