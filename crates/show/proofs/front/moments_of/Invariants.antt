-- the labels so far and those of the marks left are all
use Rattle.std.proofs.Common.{◌≡◌, ◌++◌, drop, map}
use Rattle.std.specs.Prelude.{string_bytes}
use Rattle.std.specs.Fmt.{decimal}
use Rattle.timeline.specs.declared.axis.Mark.{Mark}
use Rattle.show.proofs.front.moments_of.Given as goal

abbrev pub invariant-loop-mark : goal.invariant-loop-mark
invariant-loop-mark l =
    map (λ moment. string_bytes moment) l.moments.items ++ map (λ (mark : Mark). drop l.front (decimal mark.moment.0)) (drop l.mark-index l.marks)
    ≡ map (λ (mark : Mark). drop l.front (decimal mark.moment.0)) l.marks
