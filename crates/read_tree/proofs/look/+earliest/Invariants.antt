use Rattle.std.proofs.Common.{length}
use Rattle.read_tree.proofs.look.+earliest.Given as goal

abbrev pub decreases-earliest : goal.decreases-earliest
decreases-earliest l = length l.part.tree.now.items
