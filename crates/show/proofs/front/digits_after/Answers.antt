use Rattle.std.proofs.Common.{◌∙◌, ap, arith, length}
use Rattle.show.proofs.Fronts.{cut_anywhere}
use Rattle.show.proofs.front.digits_after.Goals as goal

pub range_from-requires : goal.range_from-requires
range_from-requires c = λ more. cut_anywhere c.deref.result.now c.args.moment.0 c.min.result (omega arith) (c.deref.ensures ∙ c.in_ok-digits.ensures) (let is = c.min.ensures in let long = c.len.ensures in let same = ap length c.deref.ensures in omega (arith, is, long, same))
