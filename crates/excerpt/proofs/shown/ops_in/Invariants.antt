-- the operations so far and those in the slots left are all
use Rattle.std.proofs.Common.{◌≡◌, ◌++◌, drop}
use Rattle.register_book.specs.Fault.{ops_in_roles}
use Rattle.excerpt.proofs.shown.ops_in.Given as goal

abbrev pub invariant-loop-slot : goal.invariant-loop-slot
invariant-loop-slot l = l.ops.items ++ ops_in_roles (drop l.slot-index l.roles) ≡ ops_in_roles l.roles
