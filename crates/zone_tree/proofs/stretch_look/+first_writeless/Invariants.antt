use Rattle.std.proofs.Common.{length}
use Rattle.zone_tree.proofs.stretch_look.+first_writeless.Given as goal

abbrev pub decreases-first_writeless : goal.decreases-first_writeless
decreases-first_writeless l = length l.part.tree.now.items
