-- the passes and the logs so far, and those of what is left
use Rattle.std.proofs.Common.{◌≡◌, ◌≤◌, ◌+◌, ◌++◌, length, map, vec_len, vec_capacity}
use Rattle.std.specs.Vec.Iter.{into_iter_items, into_iter_len}
use Rattle.feeders.proofs.several.unzipped.Given as goal

abbrev pub invariant-loop-fed : goal.invariant-loop-fed
invariant-loop-fed l = record {
  can_next : (goal.iterator-loop-fed).can_next l.fed-iterator;
  finite : (goal.iterator-loop-fed).is_finite l.fed-iterator;
  long : into_iter_len l.fed-iterator ≡ length (into_iter_items l.fed-iterator);
  passes : map (λ fed. fed.pass) l.fn.outcomes.items ≡ l.passes.items ++ map (λ fed. fed.pass) (into_iter_items l.fed-iterator);
  logs : map (λ fed. fed.log) l.fn.outcomes.items ≡ l.logs.items ++ map (λ fed. fed.log) (into_iter_items l.fed-iterator);
  room : vec_len l.passes + into_iter_len l.fed-iterator ≤ vec_capacity l.passes;
  room_of_logs : vec_len l.logs + into_iter_len l.fed-iterator ≤ vec_capacity l.logs;
}
