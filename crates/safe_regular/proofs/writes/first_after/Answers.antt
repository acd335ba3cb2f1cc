use Rattle.safe_regular.proofs.Shelves.{first_after_is}
use Rattle.safe_regular.proofs.writes.first_after.Goals as goal

pub returns : goal.returns
returns c are distinct = rw c.op_at.ensures (first_after_is c.args.table.now.ops c.args.writes.now are distinct c.first_after.result c.args.after c.first_after.ensures)
