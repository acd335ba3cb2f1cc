-- the marks are those of the lines so far
use Rattle.std.proofs.Common.{◌≡◌, length, take}
use Rattle.lint.specs.Marked.{AreMarked}
use Rattle.lint.proofs.missing.marks_of.Given as goal

abbrev pub invariant-loop-line : goal.invariant-loop-line
invariant-loop-line l = record {
  many : length l.marks.items ≡ l.fn.many;
  marked : AreMarked l.marks.items (take l.line-index l.lines);
}
