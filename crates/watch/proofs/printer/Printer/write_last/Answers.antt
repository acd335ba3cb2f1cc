use Rattle.std.proofs.Common.{[], refl}
use Rattle.watch.proofs.Telling.{written_none}
use Rattle.watch.proofs.printer.Printer.write_last.Goals as goal

pub returns-else-finished-clause-written : goal.returns-else-finished-clause-written
returns-else-finished-clause-written g c = ([], refl, written_none g.B.Beginning.terms g.B.Beginning.registers c.args.self.now)
