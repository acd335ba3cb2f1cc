use Rattle.std.proofs.Common.{◌∙◌, arith, sym}
use Rattle.excerpt.specs.Excerpt.{AreAlike}
use Rattle.excerpt.proofs.Pairs.{one_more_place}
use Rattle.excerpt.proofs.alike.all_alike.Goals as goal

pub loop-number-preserved : goal.loop-number-preserved
loop-number-preserved c = record {
  within = omega (arith, c.loop-number-test.true);
  alike = one_more_place AreAlike c.args.findings.now c.args.others.now c.loop-number.number _ _ (omega (arith, c.loop-number-test.true)) (omega (arith, c.if-findings-others.false)) c.loop-number.invariant.alike
      (sym c.are_alike.ensures ∙ c.if-not-are_alike.false);
}
