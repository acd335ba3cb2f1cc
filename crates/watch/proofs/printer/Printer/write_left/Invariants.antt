-- what was held back first is written, as many as were counted
use Rattle.std.proofs.Common.{◌≡◌, ◌+◌, ◌++◌, List, vec_len}
use Rattle.watch.specs.declared.settling.Held.{Held}
use Rattle.watch.specs.declared.teller.TellerState.TheVariants.{Going}
use Rattle.watch.specs.Teller.{WritesOn}
use Rattle.watch.specs.Due.{held_notices}
use Rattle.watch.proofs.printer.Printer.write_left.Given as goal

abbrev pub invariant-loop : goal.invariant-loop
invariant-loop g l = (vec_len l.held + l.counter ≡ l.many) × ((first : List Held) × (l.fn.held.items ≡ first ++ l.held.items) × WritesOn g.B.Beginning.terms g.B.Beginning.registers (held_notices first) Going l.fn.self l.self)
