use Rattle.std.proofs.Common.{length}
use Rattle.zone_tree.proofs.look.+first_meeting.Given as goal

abbrev pub decreases-first_meeting : goal.decreases-first_meeting
decreases-first_meeting l = length l.part.tree.now.items
