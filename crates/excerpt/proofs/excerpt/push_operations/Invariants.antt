-- the events of the operations so far, and of those that are left, are those of all
use Rattle.std.proofs.Common.{◌≡◌, ◌++◌, drop}
use Rattle.std.specs.Prelude.{flat_map}
use Rattle.excerpt.specs.Event.{operation_events}
use Rattle.excerpt.proofs.excerpt.push_operations.Given as goal

abbrev pub invariant-loop-op : goal.invariant-loop-op
invariant-loop-op l = l.text.items ++ flat_map (operation_events l.shared.moments l.shared.name.now) (drop l.op-index l.ops) ≡ l.fn.text.items ++ flat_map (operation_events l.fn.shared.moments l.fn.shared.name.now) l.fn.ops
