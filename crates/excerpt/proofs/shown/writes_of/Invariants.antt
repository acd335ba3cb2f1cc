-- the writes so far and those in the slots left are all
use Rattle.std.proofs.Common.{◌≡◌, ◌++◌, drop}
use Rattle.std.specs.Prelude.{filter}
use Rattle.intervals.specs.Table.{ops_in_slots}
use Rattle.excerpt.specs.Shown.{is_their_write}
use Rattle.excerpt.proofs.shown.writes_of.Given as goal

abbrev pub invariant-loop-slot : goal.invariant-loop-slot
invariant-loop-slot l = l.found.items ++ filter (is_their_write l.shown) (ops_in_slots (drop l.slot-index l.slots)) ≡ filter (is_their_write l.shown) (ops_in_slots l.slots)
