use Rattle.std.proofs.Common.{arith}
use Rattle.excerpt.proofs.Parts.{all_parts, one_more_part}
use Rattle.excerpt.proofs.excerpt.parts_of.Goals as goal

pub loop-number-preserved : goal.loop-number-preserved
loop-number-preserved c =
    let one = c.in_ok-push_part.ensures in
    record {
      within = omega (arith, c.loop-number-test.true, c.requires.many, c.len-number-end.ensures.length);
      so_far = one_more_part c.args.moments c.args.tower.now c.args.closed.now c.args.findings.now c.loop-number.number _ c.loop-number.text.items one.0 c.push_part.new.text.items
          (omega (arith, c.loop-number-test.true, c.requires.many, c.len-number-end.ensures.length)) one.1 one.2 c.loop-number.invariant.so_far;
    }

pub returns : goal.returns
returns c =
    all_parts c.args.moments c.args.tower.now c.args.closed.now c.args.findings.now c.loop-number.number c.loop-number.text.items (omega (arith, c.loop-number-test.false, c.requires.many, c.len-number-end.ensures.length)) c.loop-number.invariant.so_far
