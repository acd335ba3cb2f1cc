use Rattle.safe_regular.proofs.Shelves.{writes_alike, held_for}
use Rattle.safe_regular.proofs.writes.Writes.hold.Goals as goal

pub returns-clause-writes : goal.returns-clause-writes
returns-clause-writes c ops are = writes_alike ops c.args.self.now c.hold.new.shelf c.hold.ensures.ids are

pub returns-clause-only : goal.returns-clause-only
returns-clause-only c = held_for c.args.op.now c.args.self.now c.hold.new.shelf c.spot_of_write.result c.spot_of_write.ensures c.hold.ensures.others
