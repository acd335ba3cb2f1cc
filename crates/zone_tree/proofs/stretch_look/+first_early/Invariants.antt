use Rattle.std.proofs.Common.{length}
use Rattle.zone_tree.proofs.stretch_look.+first_early.Given as goal

abbrev pub decreases-first_early : goal.decreases-first_early
decreases-first_early l = length l.part.tree.now.items
