use Rattle.std.proofs.Common.{map, arith}
use Rattle.std.specs.Fmt.{decimal}
use Rattle.timeline.specs.declared.axis.Mark.{Mark}
use Rattle.show.proofs.Fronts.{common_within}
use Rattle.show.proofs.front.common_to_all.Goals as goal

pub loop-mark-init : goal.loop-mark-init
loop-mark-init c = record {
  within = omega arith;
  rest = let within = common_within c.args.digits.now (map (λ (mark : Mark). decimal mark.moment.0) c.args.marks.now) in omega (arith, within);
}
