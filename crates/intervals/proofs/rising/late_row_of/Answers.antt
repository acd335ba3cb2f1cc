use Rattle.std.proofs.Common.{sym, ◌∙◌, arith}
use Rattle.intervals.proofs.RisingRows.{first_read}
use Rattle.intervals.proofs.rising.late_row_of.Goals as goal

pub returns-then-eq-clause-first : goal.returns-then-eq-clause-first
returns-then-eq-clause-first g c =
    first_read g.K.PartialEq.eq g.K.Ord.cmp g.met.K.Ord.total g.met.K.Ord.matches_eq c.args.rows.now c.requires c.args.key _ c.index-rows-row.result
    (omega (arith, c.loop-back.auto.back, c.if-rows-back.false)) (sym c.eq.ensures ∙ c.if-eq.true)
