use Rattle.std.proofs.Common.{refl, sym, ap, ◌∙◌}
use Rattle.std.specs.Option.{option_flatten}
use Rattle.intervals.proofs.RisingRows.{absent, first_row}
use Rattle.intervals.proofs.rising.value_of.Goals as goal

pub returns-in_err-row : goal.returns-in_err-row
returns-in_err-row g c =
    c.from_residual.ensures ∙ sym (ap option_flatten (absent g.K.PartialEq.eq g.met.K.Eq.laws c.args.rows.now c.args.key (c.in_err-row.ensures.none refl)))

pub returns : goal.returns
returns g c = sym (ap option_flatten (first_row g.K.PartialEq.eq g.met.K.Eq.laws c.args.rows.now c.args.key c.in_ok-row.row c.index-rows-row.result c.in_ok-row.ensures.within c.in_ok-row.ensures.first))
