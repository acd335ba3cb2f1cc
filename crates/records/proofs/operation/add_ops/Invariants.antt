-- the tokens so far and those of the slots left are those of all
use Rattle.std.proofs.Common.{◌≡◌, ◌++◌, drop}
use Rattle.std.specs.List.{flat_map}
use Rattle.register_book.specs.Fault.{ops_in_roles}
use Rattle.records.specs.Operation.{op_symbols}
use Rattle.records.specs.Symbol.{symbols_of}
use Rattle.records.proofs.operation.add_ops.Given as goal

abbrev pub invariant-loop-slot : goal.invariant-loop-slot
invariant-loop-slot l = symbols_of l.tokens.items ++ flat_map (op_symbols l.places) (ops_in_roles (drop l.slot-index l.slots)) ≡ symbols_of l.fn.tokens.items ++ flat_map (op_symbols l.fn.places) (ops_in_roles l.fn.slots)
