use Rattle.std.proofs.Common.{◌∙◌, arith, sym}
use Rattle.std.proofs.lemmas.List.FromFn.{map-range_with_len_more}
use Rattle.report.specs.Counts.{standing_in}
use Rattle.report.proofs.counts.count_each.Goals as goal

pub loop-number-preserved : goal.loop-number-preserved
loop-number-preserved c = record {
  within = omega (arith, c.loop-number-test.true, c.len-number-end.ensures.length);
  counted = c.in_ok-push.ensures.items ∙ rw (c.loop-number.invariant.counted, c.count_of.ensures) (sym (map-range_with_len_more (standing_in c.args.closed.now) 0 c.loop-number.number c.loop-number.number (omega arith)));
}
