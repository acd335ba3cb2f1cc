use Rattle.std.proofs.Common.{arith}
use Rattle.show.proofs.Lettering.{over_more}
use Rattle.show.proofs.letter.letter_over.Goals as goal

pub loop-number-preserved : goal.loop-number-preserved
loop-number-preserved c = record {
  within = omega (arith, c.loop-number-test.true);
  rest = over_more c.args.over.now c.loop-number.number c.loop-number.letters.items c.give_over.new.letters.items _ c.loop-number-test.true c.in_ok-give_over.ensures c.loop-number.invariant.rest;
}
