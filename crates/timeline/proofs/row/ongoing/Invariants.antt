-- the counts so far and those for the marks left are all counts
use Rattle.std.proofs.Common.{◌≡◌, ◌≤◌, ◌++◌, drop, length}
use Rattle.timeline.specs.Axis.{ongoing_before}
use Rattle.timeline.proofs.row.ongoing.Given as goal

abbrev pub invariant-loop-mark : goal.invariant-loop-mark
invariant-loop-mark l = record {
  few : l.many ≤ l.mark-index;
  long : length l.ongoing.items ≡ l.mark-index;
  rest : l.ongoing.items ++ ongoing_before l.many (drop l.mark-index l.marks) ≡ ongoing_before 0 l.marks;
}
