use Rattle.safe_regular.proofs.Shelves.{writes_alike, held_no_more}
use Rattle.safe_regular.proofs.writes.Writes.release.Goals as goal

pub returns-clause-writes : goal.returns-clause-writes
returns-clause-writes c ops are = writes_alike ops c.args.self.now c.release.new.shelf c.release.ensures.ids are

pub returns-clause-only : goal.returns-clause-only
returns-clause-only c =
    held_no_more c.args.op.now c.args.self.now c.release.new.shelf c.spot_of_write.result c.spot_of_write.ensures c.release.ensures.gone c.release.ensures.ids c.release.ensures.others
