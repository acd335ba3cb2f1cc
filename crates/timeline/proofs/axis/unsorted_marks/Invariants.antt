-- the marks so far and those of the operations left are all marks
use Rattle.std.proofs.Common.{◌≡◌, ◌≤◌, ◌++◌, drop, length}
use Rattle.timeline.specs.Axis.{marks_from}
use Rattle.timeline.proofs.axis.unsorted_marks.Given as goal

abbrev pub invariant-loop-number : goal.invariant-loop-number
invariant-loop-number l = record {
  within : l.number ≤ length l.ops;
  rest : l.marks.items ++ marks_from l.number (drop l.number l.ops) ≡ marks_from 0 l.ops;
}
