use Rattle.std.proofs.Common.{◌≡◌, arith, length, subst}
use Rattle.timeline.specs.Row.{AreRowsUpTo}
use Rattle.timeline.proofs.Cutting.{row_more}
use Rattle.timeline.proofs.row.rows.Goals as goal

pub loop-start-preserved : goal.loop-start-preserved
loop-start-preserved c = record {
  within = omega (arith, c.end_of_row-start.ensures.within, c.deref.ensures.len, c.in_ok-ongoing.ensures.many);
  rows = row_more c.args.places.now c.args.width c.loop-start.starts.items c.push.new.self.items c.loop-start.start c.end_of_row-start.result c.loop-start.invariant.rows c.in_ok-push.ensures.items c.end_of_row-start.ensures.following c.end_of_row-start.ensures.row;
}

pub returns : goal.returns
returns c =
    let all : c.loop-start.start ≡ length c.args.marks.now = omega (arith, c.loop-start.invariant.within, c.loop-start-test.false) in
    subst (AreRowsUpTo c.args.places.now c.args.width c.loop-start.starts.items) all c.loop-start.invariant.rows
