-- what was left so far, and what is to be looked at
use Rattle.std.proofs.Common.{◌≡◌, ◌≤◌, ◌+◌, ◌++◌, length, map, Ok, vec_len, vec_capacity}
use Rattle.std.specs.Vec.Iter.{into_iter_items, into_iter_len}
use Rattle.feeders.proofs.several.gathered.Given as goal

abbrev pub invariant-loop-one : goal.invariant-loop-one
invariant-loop-one l = record {
  can_next : (goal.iterator-loop-one).can_next l.one-iterator;
  finite : (goal.iterator-loop-one).is_finite l.one-iterator;
  long : into_iter_len l.one-iterator ≡ length (into_iter_items l.one-iterator);
  all : l.fn.ended.items ≡ map Ok l.outcomes.items ++ into_iter_items l.one-iterator;
  room : vec_len l.outcomes + into_iter_len l.one-iterator ≤ vec_capacity l.outcomes;
}
