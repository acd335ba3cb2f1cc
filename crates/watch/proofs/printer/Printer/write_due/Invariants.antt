-- what was held back first was due and is written, as many as were counted
use Rattle.std.proofs.Common.{◌≡◌, ◌+◌, ◌++◌, List, vec_len}
use Rattle.watch.specs.declared.settling.Held.{Held}
use Rattle.watch.specs.declared.teller.TellerState.TheVariants.{Going}
use Rattle.watch.specs.Due.{AreDueFirst, held_notices}
use Rattle.watch.specs.Teller.{WritesOn}
use Rattle.watch.proofs.printer.Printer.write_due.Given as goal

abbrev pub invariant-loop : goal.invariant-loop
invariant-loop g l = (vec_len l.held + l.counter ≡ l.most) × AreDueFirst l.progress l.fn.held.items l.held.items × ((first : List Held) × (l.fn.held.items ≡ first ++ l.held.items) × WritesOn g.B.Beginning.terms g.B.Beginning.registers (held_notices first) Going l.fn.self l.self)
