-- all wants so far are between marks
use Rattle.std.specs.Prelude.{All}
use Rattle.std.proofs.Common.{length}
use Rattle.show.specs.Measure.{IsWanted}
use Rattle.show.proofs.measure.fold_wants.Given as goal

abbrev pub invariant-loop-number : goal.invariant-loop-number
invariant-loop-number l = All (IsWanted (length l.scene.marks.items)) l.wants.items
