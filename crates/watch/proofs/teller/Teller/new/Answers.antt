use Rattle.std.proofs.Common.{refl}
use Rattle.watch.proofs.Telling.{told_none}
use Rattle.watch.proofs.teller.Teller.new.Goals as goal

pub invariant_of-result : goal.invariant_of-result
invariant_of-result g c = (
  rw (c.new.ensures.items, c.new-2.ensures.items)
      (told_none g.B.Beginning.terms g.B.Beginning.registers g.B.Beginning.before c.args.printer c.requires.before c.requires.left),
  λ going. rw (c.new-2.ensures.items) refl,
  λ going one alone. rw (c.new-2.ensures.items) tt,
)
