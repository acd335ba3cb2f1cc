use Rattle.std.proofs.Common.{◌≡◌, ◌≤◌, vec_capacity, vec_len}
use Rattle.shards.proofs.auditor.open_locks.Given as goal

abbrev pub invariant-loop-at : goal.invariant-loop-at
invariant-loop-at g l = record { many : vec_len l.locks ≡ l.at; room : l.shards ≤ vec_capacity l.locks }
