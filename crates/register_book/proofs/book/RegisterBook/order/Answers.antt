use Rattle.std.proofs.Common.{◌≡◌, ◌↔◌, subst}
use Rattle.std.specs.Prelude.{IfOk, IsNone}
use Rattle.intervals.specs.declared.claim.Kind.TheVariants.{Atomic}
use Rattle.register_book.specs.BookModel.{BookModel, claimed_of}
use Rattle.intervals.specs.Kind.{Holds}
use Rattle.register_book.proofs.book.RegisterBook.order.Goals as goal

pub returns-clause-none : goal.returns-clause-none
returns-clause-none c = subst (λ (held : BookModel). IfOk c.order.result (λ found. IsNone found ↔ ¬ ((held.claim.kind ≡ Atomic) × Holds (claimed_of held)))) c.self.view_is c.order.ensures.none
