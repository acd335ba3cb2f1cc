use Rattle.safe_regular.proofs.Shelves.{writes_stay_in, none_held_in}
use Rattle.safe_regular.proofs.writes.Writes.change.Goals as goal

pub returns-else-not-keeps_its_spot-clause-writes : goal.returns-else-not-keeps_its_spot-clause-writes
returns-else-not-keeps_its_spot-clause-writes c before others after are gone come =
    writes_stay_in others before after c.args.old.now c.args.new.now (c.keeps_its_spot.ensures c.if-not-keeps_its_spot.false) gone come c.args.self.now are

pub returns-else-not-keeps_its_spot-clause-only : goal.returns-else-not-keeps_its_spot-clause-only
returns-else-not-keeps_its_spot-clause-only c before others are gone only =
    none_held_in before others c.args.old.now c.args.new.now c.args.prepared.now c.args.self.now (c.keeps_its_spot.ensures c.if-not-keeps_its_spot.false) c.requires.new are gone only
