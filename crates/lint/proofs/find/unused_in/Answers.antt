use Rattle.std.proofs.Common.{◌∙◌}
use Rattle.lint.proofs.Idle.{unused_more}
use Rattle.lint.proofs.find.unused_in.Goals as goal

pub loop-number-preserved : goal.loop-number-preserved
loop-number-preserved c = record {
  unused = c.in_ok-push.ensures.items ∙ unused_more c.args.closed.now c.loop-number.number _ _ c.loop-number.invariant.unused c.is_unused.ensures;
}
