use Rattle.std.proofs.Common.{None, sym, ◌∙◌, refl}
use Rattle.feeders.proofs.Going.{at_first}
use Rattle.feeders.proofs.progress.Progress.new.Goals as goal

pub returns-clause-at : goal.returns-clause-at
returns-clause-at c plan start pass is same =
    at_first plan start pass (record { place = 0; pairing = c.new.result; log = record { lines = c.new-2.result; broken = None } }) is refl (c.new.ensures.feeder ∙ sym same) c.new.ensures.present c.new-2.ensures.items
