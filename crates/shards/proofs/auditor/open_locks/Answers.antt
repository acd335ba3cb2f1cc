use Rattle.shards.proofs.auditor.open_locks.Goals as goal

pub new-requires-in-loop-at : goal.new-requires-in-loop-at
new-requires-in-loop-at g c = record {
  of_plan = rw c.requires.opening.1 (c.in_ok-shard.ensures.kept c.requires.opening.0);
  keeps = c.in_ok-shard.ensures.keeps;
}
