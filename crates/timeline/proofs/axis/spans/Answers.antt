use Rattle.std.proofs.Common.{arith, rules}
use Rattle.timeline.proofs.InOrder.{spans_more}
use Rattle.timeline.proofs.axis.spans.Goals as goal

pub loop-number-preserved : goal.loop-number-preserved
loop-number-preserved c = record {
  within = omega (arith, c.loop-number-test.true);
  many = search rules;
  each = spans_more c.args.ops.now c.args.marks.now c.loop-number.number c.loop-number.spans.items c.push.new.self.items c.span_at.result c.in_ok-push.ensures.items c.loop-number.invariant.many c.loop-number.invariant.each c.span_at.ensures;
}
