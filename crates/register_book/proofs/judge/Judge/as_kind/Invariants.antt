use Rattle.std.proofs.Common.{◌≤◌, ◌*◌, length}
use Rattle.register_book.specs.Judge.{held_by, IsOfItsKind, HasNonePrepared}
use Rattle.register_book.specs.BookModel.{most_steps}
use Rattle.register_book.proofs.Again.{HeldAgain}
use Rattle.register_book.proofs.judge.Judge.as_kind.Given as goal

-- the operations in the slots so far are held under the new kind
abbrev pub invariant-loop-slot : goal.invariant-loop-slot
invariant-loop-slot l = record {
  held : HeldAgain (record (held_by l.fn.self).claim { kind = l.fn.kind }) l.slot-items l.slot-index (held_by l.judge);
  kind : IsOfItsKind l.judge;
  none_prepared : HasNonePrepared l.judge;
  steps : (held_by l.judge).steps ≤ length (held_by l.judge).ops * most_steps (held_by l.fn.self).ops;
}
