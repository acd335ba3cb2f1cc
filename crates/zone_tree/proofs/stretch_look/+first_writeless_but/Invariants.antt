use Rattle.std.proofs.Common.{length}
use Rattle.zone_tree.proofs.stretch_look.+first_writeless_but.Given as goal

abbrev pub decreases-first_writeless_but : goal.decreases-first_writeless_but
decreases-first_writeless_but l = length l.part.tree.now.items
