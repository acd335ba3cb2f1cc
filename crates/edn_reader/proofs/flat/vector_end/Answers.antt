use Rattle.std.proofs.Common.{arith}
use Rattle.edn_reader.proofs.FlatMaps.{words_first, words_next}
use Rattle.edn_reader.proofs.flat.vector_end.Goals as goal

pub loop-at-init : goal.loop-at-init
loop-at-init c = record {
  within = c.white_end-at.ensures.within;
  after = omega (arith, c.white_end-at.ensures.end);
  words = λ base. words_first c.args.bytes.now base c.args.from c.white_end-at.result c.white_end-at.ensures.end;
}

pub returns-then-bytes-at-eq93 : goal.returns-then-bytes-at-eq93
returns-then-bytes-at-eq93 c = (c.loop-at.at, omega arith, c.loop-at.invariant.after, c.loop-at-test.true, c.if-bytes-at-eq93.true, c.loop-at.invariant.words)

pub loop-at-preserved : goal.loop-at-preserved
loop-at-preserved c = record {
  within = c.white_end-at-in-loop-at.ensures.within;
  after = omega (arith, c.loop-at.invariant.after, c.in_ok-end.ensures.0, c.white_end-at-in-loop-at.ensures.end);
  words = λ base.
      words_next c.args.bytes.now base c.args.from c.loop-at.at c.in_ok-end.end c.white_end-at-in-loop-at.result c.in_ok-end.ensures c.white_end-at-in-loop-at.ensures.end (c.loop-at.invariant.words base);
}
