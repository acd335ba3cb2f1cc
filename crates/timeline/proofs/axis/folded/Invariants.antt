-- the counts so far and those for the marks left are all counts
use Rattle.std.proofs.Common.{◌≡◌, ◌++◌, drop}
use Rattle.timeline.specs.Axis.{folded_of}
use Rattle.timeline.proofs.axis.folded.Given as goal

abbrev pub invariant-loop-mark : goal.invariant-loop-mark
invariant-loop-mark l = l.folded.items ++ folded_of l.before (drop l.mark-index l.marks) l.hidden ≡ folded_of 0 l.marks l.hidden
