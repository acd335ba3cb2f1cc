-- the pairs so far, and what is left of both lists
use Rattle.std.proofs.Common.{◌≡◌, ◌≤◌, ◌+◌, ◌++◌, length, map, vec_len, vec_capacity}
use Rattle.std.specs.Vec.Iter.{into_iter_items, into_iter_len}
use Rattle.feeders.proofs.several.paired.Given as goal

abbrev pub invariant-loop-pass : goal.invariant-loop-pass
invariant-loop-pass g l = record {
  can_next : (goal.iterator-loop-pass g).can_next l.pass-iterator;
  finite : (goal.iterator-loop-pass g).is_finite l.pass-iterator;
  long : into_iter_len l.pass-iterator ≡ length (into_iter_items l.pass-iterator);
  passes : l.fn.passes.items ≡ map (λ pair. pair.0) l.pairs.items ++ into_iter_items l.pass-iterator;
  given : l.fn.given.items ≡ map (λ pair. pair.1) l.pairs.items ++ into_iter_items l.rest;
  same : length (into_iter_items l.pass-iterator) ≡ length (into_iter_items l.rest);
  room : vec_len l.pairs + into_iter_len l.pass-iterator ≤ vec_capacity l.pairs;
}
