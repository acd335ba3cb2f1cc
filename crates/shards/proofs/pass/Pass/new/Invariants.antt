-- nothing was submitted in the shards so far, and there is room for the others
use Rattle.std.proofs.Common.{◌≡◌, ◌≤◌, [], map, replicate, vec_capacity}
use Rattle.shards.specs.declared.submitted.Submitted.{Submitted}
use Rattle.shards.specs.Compact.{entries_by}
use Rattle.shards.proofs.pass.Pass.new.Given as goal

abbrev pub invariant-loop : goal.invariant-loop
invariant-loop l = (map (λ (own : Submitted). entries_by l.feeder own.whole.items own.rows.items) l.own.items ≡ replicate l.counter []) × (l.shards ≤ vec_capacity l.own)
