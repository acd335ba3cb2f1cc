use Rattle.std.proofs.Common.{◌<◌}
use Rattle.std.specs.Prelude.{All}
use Rattle.shards.specs.Merge.{numbered}
use Rattle.shards.specs.Shard.{AreStarts, IsOwned}
use Rattle.shards.proofs.closing.stranger_in.Given as goal

-- a pass of its feeder submitted each entry before this one, and the starts are not past this one
abbrev pub invariant-loop-number : goal.invariant-loop-number
invariant-loop-number l =
    All (λ known. known.number < l.number → IsOwned l.passes l.place known) (numbered 0 l.journal) × AreStarts l.passes l.place l.number l.starts
