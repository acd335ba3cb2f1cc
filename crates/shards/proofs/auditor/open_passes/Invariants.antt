-- the passes of the feeders so far, and room for the others
use Rattle.std.proofs.Common.{◌≡◌, ◌≤◌, [], map, vec_len, vec_capacity}
use Rattle.std.specs.List.{range_with_len}
use Rattle.shards.specs.Pass.{new_pass}
use Rattle.shards.proofs.auditor.open_passes.Given as goal

abbrev pub invariant-loop-feeder : goal.invariant-loop-feeder
invariant-loop-feeder l = record {
  passes : l.passes.items ≡ map (new_pass (record { name = l.name; shards = l.shards; feeders = l.feeders; claims = [] })) (range_with_len 0 l.feeder);
  many : vec_len l.passes ≡ l.feeder;
  room : l.feeders ≤ vec_capacity l.passes;
}
