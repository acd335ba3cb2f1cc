use Rattle.std.proofs.Common.{◌≡◌, ◌∙◌, ap, drop, arith}
use Rattle.std.proofs.lemmas.List.{drop_all}
use Rattle.show.specs.Front.{equal_digits}
use Rattle.show.proofs.Fronts.{none_left}
use Rattle.show.proofs.front.equal_digits.Goals as goal

pub returns-else-many-other : goal.returns-else-many-other
returns-else-many-other c =
    let none : equal_digits (drop c.loop-many.many c.args.one.now) (drop c.loop-many.many c.args.other.now) ≡ 0 =
    ap (equal_digits (drop c.loop-many.many c.args.one.now)) (drop_all c.loop-many.many c.args.other.now (let past = c.if-many-other.false in omega (arith, past))) ∙ none_left (drop c.loop-many.many c.args.one.now) in
    let rest = c.loop-many.invariant.rest in
    omega (arith, none, rest)
