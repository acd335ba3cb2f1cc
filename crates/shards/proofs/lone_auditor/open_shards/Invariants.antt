-- the shards so far are opened, and there is room for the others
use Rattle.std.proofs.Common.{◌≡◌, ◌≤◌, vec_len, vec_capacity}
use Rattle.shards.proofs.OpenedAlone.{AreOpenedAlone}
use Rattle.shards.proofs.lone_auditor.open_shards.Given as goal

abbrev pub invariant-loop-at : goal.invariant-loop-at
invariant-loop-at l = record {
  opened : AreOpenedAlone l.tower l.shards l.feeders l.own.items;
  many : vec_len l.own ≡ l.at;
  room : l.shards ≤ vec_capacity l.own;
}
