use Rattle.std.proofs.Common.{nat_lt, rules, sym}
use Rattle.std.proofs.lemmas.Fn.{always_returns_same}
use Rattle.intervals.specs.declared.operation.Moment.{Moment}
use Rattle.timeline.proofs.Counting.{parted, passing}
use Rattle.timeline.proofs.axis.began.Goals as goal

pub returns : goal.returns
returns c =
    let before = λ (m : Moment). nat_lt m.0 c.args.moment.0 in
    let point = c.partition_point.ensures.partitioned before (always_returns_same _ _ _ (λ a r f k. search rules)) (parted c.args.hidden.now c.args.moment c.requires) in
    sym (passing before c.args.hidden.now c.partition_point.result c.partition_point.ensures.bound point.0 point.1)
