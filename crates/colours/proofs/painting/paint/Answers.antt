use Rattle.std.proofs.Common.{◌≤◌, arith}
use Rattle.colours.proofs.Adding.{going_on}
use Rattle.colours.proofs.painting.paint.Goals as goal

pub loop-at-preserved : goal.loop-at-preserved
loop-at-preserved c =
    let text = c.args.text.now in
    let between = c.push_line.new.painted.items in
    let order : c.end_of_line-end.result ≤ c.min-next.result = omega (arith, c.min-next.ensures, c.saturating_add.ensures, c.end_of_line-end.ensures.within) in
    record {
      within = omega (arith, c.min-next.ensures, c.saturating_add.ensures, c.end_of_line-end.ensures.within);
      painted = going_on text c.end_of_line-end.result c.min-next.result between c.push_plain.new.painted.items order
          (going_on text c.loop-at.at c.end_of_line-end.result c.loop-at.painted.items between c.end_of_line-end.ensures.order c.loop-at.invariant.painted
          c.in_ok-push_line.ensures)
          c.in_ok-push_plain.ensures;
    }
