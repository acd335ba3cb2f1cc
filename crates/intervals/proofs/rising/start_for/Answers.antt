use Rattle.std.proofs.Common.{None, sym, ◌∙◌, ap, arith}
use Rattle.std.specs.Ordering.{is_le}
use Rattle.intervals.proofs.RisingRows.{less_before, not_greater}
use Rattle.intervals.proofs.rising.start_for.Goals as goal

pub returns-then-is_le-clause-less : goal.returns-then-is_le-clause-less
returns-then-is_le-clause-less g c =
    less_before g.K.PartialEq.eq g.K.Ord.cmp g.met.K.Ord.total g.met.K.Ord.matches_eq c.args.rows.now c.requires c.args.key _ c.index-rows-from.result (c.args.key, None) (omega (arith, c.loop-width.invariant, c.loop-width-test.true))
    (not_greater _ (sym (c.is_le.ensures ∙ ap is_le c.cmp.ensures) ∙ c.if-is_le.true))
