use Rattle.std.proofs.Common.{◌≡◌, ◌↔◌, rules}
use Rattle.std.specs.Prelude.{IsNone}
use Rattle.std.proofs.lemmas.Result.{IfOk-weaker}
use Rattle.intervals.specs.declared.claim.Kind.TheVariants.{Atomic}
use Rattle.intervals.specs.Kind.{IsAtomic, Holds}
use Rattle.register_book.specs.Judge.{held_by}
use Rattle.register_book.proofs.Orders.{none_of_kind}
use Rattle.register_book.proofs.judge.Judge.order.Goals as goal
use Rattle.register_book.specs.BookModel.{claimed_of}

pub returns-in-Many-clause-none : goal.returns-in-Many-clause-none
returns-in-Many-clause-none c =
    let held = held_by c.args.self.now in
    let kind : held.claim.kind ≡ Atomic = search rules in
    IfOk-weaker c.order.result (λ found. IsNone found ↔ ¬ IsAtomic held.claim held.ops) (λ found. IsNone found ↔ ¬ ((held.claim.kind ≡ Atomic) × Holds (claimed_of held)))
    (λ found h. none_of_kind (IsNone found) held.claim held.ops kind h) (rw c.in-Many.is c.order.ensures.none)
