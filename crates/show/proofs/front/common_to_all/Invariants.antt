-- what is common to the marks so far and to those that are left
use Rattle.std.proofs.Common.{◌≡◌, ◌≤◌, drop, length, map, min}
use Rattle.std.specs.Fmt.{decimal}
use Rattle.timeline.specs.declared.axis.Mark.{Mark}
use Rattle.show.specs.Front.{common_to_all}
use Rattle.show.proofs.front.common_to_all.Given as goal

abbrev pub invariant-loop-mark : goal.invariant-loop-mark
invariant-loop-mark l = record {
  within : l.common ≤ length l.digits;
  rest : min l.common (common_to_all l.digits (map (λ (mark : Mark). decimal mark.moment.0) (drop l.mark-index l.marks))) ≡ common_to_all l.digits (map (λ (mark : Mark). decimal mark.moment.0) l.marks);
}
