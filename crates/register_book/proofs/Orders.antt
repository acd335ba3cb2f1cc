-- An atomic register has no order exactly where it does not hold.
use Rattle.std.proofs.Common.{◌≡◌, ◌↔◌, List, sym, subst}
use Rattle.intervals.specs.declared.operation.Op.{Op}
use Rattle.intervals.specs.declared.claim.Kind.{Kind}
use Rattle.intervals.specs.declared.claim.Kind.TheVariants.{Atomic}
use Rattle.intervals.specs.Terms.{ClaimModel, state_of}
use Rattle.intervals.specs.Kind.{IsAtomic, Keeps, Holds}

pub none_of_kind : (N : Type 0) (claim : ClaimModel) (ops : List Op) → claim.kind ≡ Atomic → N ↔ ¬ IsAtomic claim ops → N ↔ ¬ ((claim.kind ≡ Atomic) × Holds (state_of claim ops))
none_of_kind N claim ops e h = (
  (λ n x. h.0 n (subst (λ (kind : Kind). Keeps kind claim ops) e x.1)),
  (λ no. h.1 (λ arranged. no (e, subst (λ (kind : Kind). Keeps kind claim ops) (sym e) arranged))),
)
