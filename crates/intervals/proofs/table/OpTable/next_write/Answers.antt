use Rattle.std.proofs.Common.{◌∙◌}
use Rattle.intervals.proofs.InTurn.{next_found, none_next}
use Rattle.intervals.proofs.table.OpTable.next_write.Goals as goal

pub returns-in_err-id-in-Some : goal.returns-in_err-id-in-Some
returns-in_err-id-in-Some c =
    let are = rw c.in-Some.is at c.requires.turn in
    rw c.from_residual.ensures (none_next c.args.self.now.ops c.requires.ids c.in-Some.turn are c.args.after c.in_err-id-in-Some.ensures)

pub returns-in_ok-id-in-Some : goal.returns-in_ok-id-in-Some
returns-in_ok-id-in-Some c =
    let are = rw c.in-Some.is at c.requires.turn in
    let found = c.in_ok-id-in-Some.ensures in
    next_found c.args.self.now.ops c.requires.ids c.in-Some.turn are c.args.after c.in_ok-id-in-Some.field-0-0 c.in_ok-id-in-Some.id c.copied.result found.0 found.1 found.2 (c.copied.ensures ∙ c.get.ensures)
