use Rattle.std.proofs.Common.{◌∙◌, ap, arith, length}
use Rattle.show.proofs.Fronts.{cut_anywhere, cut_within}
use Rattle.show.proofs.front.front_among.Goals as goal

pub range-requires-clause-end_boundary : goal.range-requires-clause-end_boundary
range-requires-clause-end_boundary c =
    cut_anywhere c.deref-2.result.now c.args.first.0 c.cut_of.result (omega arith) (c.deref-2.ensures ∙ c.in_ok-digits.ensures)
    (let is = c.cut_of.ensures in let within = cut_within c.len.result c.in_ok-common.common in let long = c.len.ensures in let same = ap length (c.deref-2.ensures) in omega (arith, is, within, long, same))
