use Rattle.std.proofs.Common.{length}
use Rattle.zone_tree.proofs.look.+first_after.Given as goal

abbrev pub decreases-first_after : goal.decreases-first_after
decreases-first_after l = length l.part.tree.now.items
