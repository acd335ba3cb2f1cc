-- the items of the operations before the slot are in the tree
use Rattle.intervals.specs.Terms.{terms_of}
use Rattle.intervals.proofs.Fronts.{front_of}
use Rattle.safe_regular.specs.RowItems.{AreLaid}
use Rattle.safe_regular.proofs.row_items.lay.Given as goal

abbrev pub invariant-loop-slot : goal.invariant-loop-slot
invariant-loop-slot l = AreLaid (terms_of l.claim) l.table.ops (front_of l.slots l.slot-index) l.fn.line.free l.line
