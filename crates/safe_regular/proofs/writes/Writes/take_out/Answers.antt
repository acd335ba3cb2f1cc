use Rattle.safe_regular.proofs.Shelves.{writes_without}
use Rattle.safe_regular.proofs.writes.Writes.take_out.Goals as goal

pub returns-clause-writes : goal.returns-clause-writes
returns-clause-writes c others ops are added =
    writes_without others c.args.op.now ops added c.args.self.now c.take_out.new.shelf c.spot_of_write.result c.spot_of_write.ensures c.take_out.ensures.ids c.take_out.ensures.gone are
