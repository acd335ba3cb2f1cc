use Rattle.std.proofs.Common.{inl, inr, refl}
use Rattle.safe_regular.proofs.row_items.cover_before_new.Goals as goal

pub returns-then-comes_last_unfinished : goal.returns-then-comes_last_unfinished
returns-then-comes_last_unfinished c are ids = inr (refl, c.comes_last_unfinished.ensures are ids c.if-comes_last_unfinished.true)

pub returns-else-comes_last_unfinished : goal.returns-else-comes_last_unfinished
returns-else-comes_last_unfinished c are ids = inl (c.cover_before.ensures are ids)
