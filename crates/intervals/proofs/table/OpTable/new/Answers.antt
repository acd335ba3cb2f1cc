use Rattle.std.proofs.Common.{refl}
use Rattle.intervals.specs.Moments.{holder_at}
use Rattle.intervals.specs.Table.{slot_of_id}
use Rattle.intervals.proofs.Indexed.{indexed_none}
use Rattle.intervals.proofs.table.OpTable.new.Goals as goal

pub invariant_of-result : goal.invariant_of-result
invariant_of-result c = (
  rw c.new.ensures.items (indexed_none (slot_of_id c.new-2.result) (holder_at c.new-3.result) c.new-2.ensures.empty c.new-3.ensures.empty),
  rw c.new.ensures.items refl,
  c.new-2.ensures.order,
  c.new-3.ensures.order,
  tt,
)
