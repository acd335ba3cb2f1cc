-- the readers so far, and those that are left
use Rattle.std.proofs.Common.{◌≡◌, ◌+◌, ◌++◌, length, map, vec_len}
use Rattle.std.specs.Vec.Iter.{into_iter_items}
use Rattle.places.proofs.copying.copied_to.Given as goal

abbrev pub invariant-loop-reader : goal.invariant-loop-reader
invariant-loop-reader g l = record {
  can_next : (goal.iterator-loop-reader g).can_next l.reader-iterator;
  finite : (goal.iterator-loop-reader g).is_finite l.reader-iterator;
  readers : map g.S.Read.remaining l.fn.readers.items ≡ l.wrapped.items ++ map g.S.Read.remaining (into_iter_items l.reader-iterator);
  number : l.number ≡ vec_len l.wrapped;
  left : l.number + length (into_iter_items l.reader-iterator) ≡ vec_len l.fn.readers;
}
