use Rattle.std.proofs.Common.{[]}
use Rattle.watch.specs.Due.{held_notices}
use Rattle.watch.proofs.Telling.{taken_one, written_none}
use Rattle.watch.proofs.printer.Printer.take.Goals as goal

pub returns-in-Ok-None-clause-written : goal.returns-in-Ok-None-clause-written
returns-in-Ok-None-clause-written g c =
    let passed_on = rw c.in-Ok-None.field-0-is at c.in-Ok-None.ensures.passed_on in
    ([], written_none g.B.Beginning.terms g.B.Beginning.registers c.args.self.now, λ told. passed_on)

pub returns-in-Ok-Some-clause-written : goal.returns-in-Ok-Some-clause-written
returns-in-Ok-Some-clause-written g c =
    let passed_on = rw c.in-Ok-Some.field-0-is at c.in-Ok-Some.ensures.passed_on in
    taken_one g.B.Beginning.terms g.B.Beginning.registers c.write_one.result c.args.self.now c.write_one.new.self g.B.Beginning.terms.settle
    (held_notices c.args.held.now.items) (held_notices c.noted.new.held.items) c.args.notice c.in-Ok-Some.now passed_on c.write_one.ensures.told c.write_one.ensures.none
