-- The first operation of a list that passes a test.
use Rattle.std.proofs.Common.{◌≡◌, suc, Bool, true, false, List, [], ◌∷◌, Option, Some, None, refl, cond, arith}
use Rattle.std.specs.Prelude.{All, Contains, IsTrue, find, option_map}
use Rattle.std.proofs.lemmas.List.Elements.{All-cons, All-nil, All-head, All-tail}
use Rattle.intervals.specs.declared.operation.Op.{Op}

pub not_mapped : {X Y : Type 0} (f : X → Y) (o : Option X) → option_map f o ≡ None → o ≡ None
not_mapped f None e = refl
not_mapped f (Some x) e = absurd (cc)

module _ (test : Op → Bool) where
  -- where nothing is found, none passes
  pub find-None : (ops : List Op) → find test ops ≡ None → All (λ op. test op ≡ false) ops
  find-None [] e = All-nil _
  find-None (a ∷ ops) e = All-cons (λ op. test op ≡ false) a ops (here (test a) e) (find-None ops (there (test a) e))
    where
      here : (t : Bool) → cond t (Some a) (find test ops) ≡ None → t ≡ false
      here false e = refl
      here true e = absurd (cc)

      there : (t : Bool) → cond t (Some a) (find test ops) ≡ None → find test ops ≡ None
      there false e = e
      there true e = absurd (cc)

  -- where none passes, nothing is found
  pub find-none : (ops : List Op) → All (λ op. ¬ IsTrue (test op)) ops → find test ops ≡ None
  find-none [] none = refl
  find-none (a ∷ ops) none = by_cases (test a) (All-head (λ op. ¬ IsTrue (test op)) a ops none) (find-none ops (All-tail (λ op. ¬ IsTrue (test op)) a ops none))
    where
      by_cases : (t : Bool) → ¬ IsTrue t → find test ops ≡ None → cond t (Some a) (find test ops) ≡ None
      by_cases true not e = absurd (not refl)
      by_cases false not e = e

  -- what is found is in the list and passes
  pub find-Some : (ops : List Op) (op : Op) → find test ops ≡ Some op → Contains ops op × IsTrue (test op)
  find-Some [] op e = absurd (cc)
  find-Some (a ∷ ops) op e = by_cases (test a) refl e (find-Some ops op)
    where
      by_cases : (t : Bool) → test a ≡ t → cond t (Some a) (find test ops) ≡ Some op → (find test ops ≡ Some op → Contains ops op × IsTrue (test op)) → Contains (a ∷ ops) op × IsTrue (test op)
      by_cases true t e later = ((0, omega arith, (cc)), let same : a ≡ op = cc in rw (← same) t)
      by_cases false t e later = let (present, passes) = later e in ((suc present.0, omega (arith, present.1), present.2), passes)
