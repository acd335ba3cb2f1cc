-- the copies so far, and how many are left
use Rattle.std.proofs.Common.{◌≡◌, ◌+◌, length, vec_len}
use Rattle.std.specs.Vec.Iter.{into_iter_items}
use Rattle.places.specs.Copied.{AreCopiesOf}
use Rattle.places.proofs.copying.Copies.into_kept.Given as goal

abbrev pub invariant-loop-copy : goal.invariant-loop-copy
invariant-loop-copy g l = record {
  copies : AreCopiesOf g.B.Originals.texts l.kept.items;
  many : vec_len l.kept + length (into_iter_items l.copy-iterator) ≡ l.fn.self;
}
