use Rattle.safe_regular.proofs.Shelves.{writes_with}
use Rattle.safe_regular.proofs.writes.Writes.put_in.Goals as goal

pub returns-clause-writes : goal.returns-clause-writes
returns-clause-writes c others ops are added =
    writes_with others c.args.op.now ops added c.args.self.now c.put_in.new.shelf c.spot_of_write.result c.spot_of_write.ensures c.put_in.ensures.ids c.put_in.ensures.there are
