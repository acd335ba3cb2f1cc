-- the overlapping writes so far and those among the writes left are all
use Rattle.std.proofs.Common.{◌≡◌, ◌++◌, drop}
use Rattle.std.specs.Prelude.{filter}
use Rattle.intervals.specs.declared.operation.Op.{Op}
use Rattle.intervals.specs.Operation.{overlaps}
use Rattle.register_book.proofs.around.over_of.Given as goal

abbrev pub invariant-loop-write : goal.invariant-loop-write
invariant-loop-write l = l.over.items ++ filter (λ (write : Op). overlaps write l.read) (drop l.write-index l.writes) ≡ filter (λ (write : Op). overlaps write l.read) l.writes
