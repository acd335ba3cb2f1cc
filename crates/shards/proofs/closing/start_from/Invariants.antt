-- the entries so far have lesser numbers
use Rattle.std.proofs.Common.{◌-◌}
use Rattle.shards.specs.Pass.{own_entries}
use Rattle.shards.specs.Shard.{AreNumberedBelow}
use Rattle.shards.proofs.closing.start_from.Given as goal

abbrev pub invariant-loop-start : goal.invariant-loop-start
invariant-loop-start l = AreNumberedBelow (own_entries l.pass l.shard) l.number l.start

abbrev pub decreases-loop-start : goal.decreases-loop-start
decreases-loop-start l = l.many - l.start
