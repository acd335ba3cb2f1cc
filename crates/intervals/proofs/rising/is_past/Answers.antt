use Rattle.std.proofs.Common.{sym, ◌∙◌, ap}
use Rattle.std.specs.Ordering.{is_lt}
use Rattle.intervals.proofs.RisingRows.{last_decides}
use Rattle.intervals.proofs.rising.is_past.Goals as goal

pub returns-in-Some : goal.returns-in-Some
returns-in-Some g c =
    let both = last_decides g.K.PartialEq.eq g.K.Ord.cmp g.met.K.Ord.total g.met.K.Ord.matches_eq c.args.rows.now c.requires c.args.key c.in-Some.last.now c.in-Some.ensures.value in
    let is = c.is_lt.ensures ∙ ap is_lt c.cmp.ensures in
    (λ t. both.0 (sym is ∙ t), λ past. is ∙ both.1 past)
