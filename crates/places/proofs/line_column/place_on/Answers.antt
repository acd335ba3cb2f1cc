use Rattle.std.proofs.Common.{◌-◌, take, drop, get_or, ap, arith}
use Rattle.places.specs.declared.line_column.LineColumn.{LineColumn}
use Rattle.places.proofs.PlaceAfter.{after_small, part_on}
use Rattle.places.proofs.line_column.place_on.Goals as goal

pub loop-byte-preserved : goal.loop-byte-preserved
loop-byte-preserved c =
    let text = c.args.text.now in
    let from = c.args.from in
    let i = c.loop-byte.byte-index in
    let old = c.loop-byte.place in
    let small = after_small old (get_or (take (c.args.to - from) (drop from text)) i 0) in
    let line = ap (λ (place : LineColumn). place.line) c.after-place.ensures in
    let column = ap (λ (place : LineColumn). place.column) c.after-place.ensures in
    record {
      place = part_on text from c.args.to i old c.after-place.result c.requires.order c.requires.within c.loop-byte-test.true c.loop-byte.invariant.place c.after-place.ensures;
      line = omega (arith, small.0, line, c.loop-byte.invariant.line);
      column = omega (arith, small.1, column, c.loop-byte.invariant.column);
    }
