-- The writes of one writer follow one another.
use Rattle.std.proofs.Common.{◌≡◌, ◌<◌, ◌≤◌, ◌⊎◌, inl, inr, Bool, true, false, List, Option, Some, None, Decides, sym, subst, arith}
use Rattle.std.specs.Prelude.{Contains, IfSome}
use Rattle.std.proofs.lemmas.Bool.{cases_Bool, cases_order}
use Rattle.std.proofs.lemmas.Bool.Decides.{not_from_Decides}
use Rattle.intervals.specs.declared.operation.Op.{Op}
use Rattle.intervals.specs.declared.operation.Moment.{Moment}
use Rattle.intervals.specs.Operation.{EndsBefore, Precedes, IsWrite}
use Rattle.safe_regular.specs.Apart.{EndsAfterBeginning, AreSequential}

-- what a test decides holds or does not
pub either_way : {P : Type 0} (b : Bool) → Decides b P → P ⊎ (¬ P)
either_way {P} b d = by_cases (cases_Bool b)
  where
    by_cases : (b ≡ true) ⊎ (b ≡ false) → P ⊎ (¬ P)
    by_cases (inl t) = inl (d.0 t)
    by_cases (inr f) = inr (not_from_Decides b d f)

pub ends_before_later : (end : Option Moment) (m n : Moment) → m.0 ≤ n.0 → EndsBefore end m → EndsBefore end n
ends_before_later None m n le h = h
ends_before_later (Some end) m n le h = omega arith

ends_after : (begin : Moment) (end : Option Moment) (m : Moment) → IfSome end (λ e. begin.0 < e.0) → EndsBefore end m → begin.0 < m.0
ends_after begin None m proper h = absurd h
ends_after begin (Some end) m proper h = omega arith

-- what precedes an operation precedes each operation that begins no earlier
pub precedes_later : (a b c : Op) → b.begin.0 ≤ c.begin.0 → Precedes a b → Precedes a c
precedes_later a b c le h = ends_before_later a.end b.begin c.begin le h

-- what precedes an operation begins before it
pub begins_before : (a b : Op) → EndsAfterBeginning a → Precedes a b → a.begin.0 < b.begin.0
begins_before a b proper h = ends_after a.begin a.end b.begin proper h

module _ (ops : List Op) (apart : AreSequential ops) where
  -- of two writes the one that begins no later is the other or precedes it
  pub same_or_precedes : (v w : Op) → Contains ops v → Contains ops w → IsWrite v → IsWrite w → v.begin.0 ≤ w.begin.0 → (v ≡ w) ⊎ ((v.begin.0 < w.begin.0) × Precedes v w)
  same_or_precedes v w sv sw wv ww le = by_cases (cases_order v.begin.0 w.begin.0)
    where
      by_cases : (v.begin.0 ≡ w.begin.0) ⊎ ((v.begin.0 < w.begin.0) ⊎ (w.begin.0 < v.begin.0)) → (v ≡ w) ⊎ ((v.begin.0 < w.begin.0) × Precedes v w)
      by_cases (inl same) = inl (apart.one v w sv sw wv ww same)
      by_cases (inr (inl lt)) = inr (lt, apart.apart v w sv sw wv ww lt)
      by_cases (inr (inr gt)) = absurd (omega arith)

  -- where a write precedes r, so does each that begins no later
  pub precedes_with : (v w r : Op) → Contains ops v → Contains ops w → IsWrite v → IsWrite w → v.begin.0 ≤ w.begin.0 → Precedes w r → Precedes v r
  precedes_with v w r sv sw wv ww le h = by_cases (same_or_precedes v w sv sw wv ww le)
    where
      by_cases : (v ≡ w) ⊎ ((v.begin.0 < w.begin.0) × Precedes v w) → Precedes v r
      by_cases (inl e) = subst (λ (o : Op). Precedes o r) (sym e) h
      by_cases (inr p) = let lt = begins_before w r (apart.proper w sw ww) h in precedes_later v w r (omega arith) p.1
