use Rattle.std.proofs.Common.{arith, rules}
use Rattle.show.proofs.Stepping.{step_more}
use Rattle.show.proofs.measure.steps_of.Goals as goal

pub loop-number-preserved : goal.loop-number-preserved
loop-number-preserved c = record {
  within = omega (arith, c.loop-number-test.true);
  many = search rules;
  positive = λ gap. rw c.in_ok-push.ensures.items (step_more c.loop-number.steps.items c.step_to.result (c.loop-number.invariant.positive gap) (λ some. omega (arith, gap, c.step_to.ensures (omega (arith, some, c.loop-number.invariant.many)))));
}

pub returns-clause-positive : goal.returns-clause-positive
returns-clause-positive c = λ gap last. rw c.in_ok-push-2.ensures.items (step_more c.loop-number.steps.items c.args.measure.now.last (c.loop-number.invariant.positive gap) (λ some. last))
