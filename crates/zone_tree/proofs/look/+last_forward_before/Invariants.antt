use Rattle.std.proofs.Common.{length}
use Rattle.zone_tree.proofs.look.+last_forward_before.Given as goal

abbrev pub decreases-last_forward_before : goal.decreases-last_forward_before
decreases-last_forward_before l = length l.part.tree.now.items
