use Rattle.safe_regular.proofs.Shelves.{first_from_is}
use Rattle.safe_regular.proofs.writes.first_from.Goals as goal

pub returns : goal.returns
returns c are distinct = rw c.op_at.ensures (first_from_is c.args.table.now.ops c.args.writes.now are distinct c.first_from.result c.args.from c.first_from.ensures)
