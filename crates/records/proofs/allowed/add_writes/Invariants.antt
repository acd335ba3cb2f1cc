-- the values so far and those of the writes that are left are all
use Rattle.std.proofs.Common.{◌≡◌, ◌++◌, drop, map}
use Rattle.records.specs.Allowed.{of_write}
use Rattle.records.proofs.allowed.add_writes.Given as goal

abbrev pub invariant-loop-write : goal.invariant-loop-write
invariant-loop-write l = l.allowed.items ++ map of_write (drop l.write-index l.writes) ≡ l.fn.allowed.items ++ map of_write l.fn.writes
