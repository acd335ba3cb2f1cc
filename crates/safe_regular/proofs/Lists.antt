-- Which operations a filtered list contains.
use Rattle.std.proofs.Common.{◌≡◌, zero, suc, Bool, true, false, List, [], ◌∷◌, filter, refl, ap, arith, cond}
use Rattle.std.specs.Prelude.{Contains}
use Rattle.std.proofs.lemmas.List.Elements.{All-contains, All-contains_itself, All-filter}
use Rattle.intervals.specs.declared.operation.Op.{Op}

-- what a filter keeps
pub kept : (test : Op → Bool) (ops : List Op) (op : Op) → Contains ops op → test op ≡ true → Contains (filter test ops) op
kept test [] op h e = absurd (omega (arith, h.1))
kept test (a ∷ ops) op (zero, lt, same) e = by_cases (test a) refl
  where
    by_cases : (t : Bool) → test a ≡ t → Contains (cond t (a ∷ filter test ops) (filter test ops)) op
    by_cases true p = (0, omega arith, same)
    by_cases false p = absurd (let q = ap test same in cc)
kept test (a ∷ ops) op (suc k, lt, same) e = by_cases (test a) (kept test ops op (k, omega arith, same) e)
  where
    by_cases : (t : Bool) → Contains (filter test ops) op → Contains (cond t (a ∷ filter test ops) (filter test ops)) op
    by_cases true h = (suc h.0, omega (arith, h.1), h.2)
    by_cases false h = h

pub kept_present : (test : Op → Bool) (ops : List Op) (op : Op) → Contains (filter test ops) op → Contains ops op
kept_present test ops op h = All-contains (Contains ops) (filter test ops) op (All-filter test (Contains ops) ops (All-contains_itself ops)) h
