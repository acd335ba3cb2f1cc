use Rattle.safe_regular.proofs.Shelves.{last_before_is}
use Rattle.safe_regular.proofs.writes.last_before.Goals as goal

pub returns : goal.returns
returns c are distinct = rw c.op_at.ensures (last_before_is c.args.table.now.ops c.args.writes.now are distinct c.last_before.result c.args.limit c.last_before.ensures)
