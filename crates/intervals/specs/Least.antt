-- The operation of least key among those that pass a test.
use Rattle.std.specs.Prelude.{ℕ, ◌≤◌, Bool, true, ◌&&◌, nat_lt, All, Contains, IsTrue, List, [], ◌∷◌, Option, Some, None, if◌then◌else◌}
use Rattle.intervals.specs.declared.operation.Op.{Op}

-- whether the key of the operation is less than that of the optional one found so far; always where there is none
abbrev pub is_less : (Op → ℕ) → Op → Option Op → Bool
is_less key op None = true
is_less key op (Some found) = nat_lt (key op) (key found)

-- the optional one found so far, or the operation where that passes the test and has a lesser key
abbrev pub less_of : (Op → ℕ) → (Op → Bool) → Option Op → Op → Option Op
less_of key test found op = if test op && is_less key op found then Some op else found

-- the one of least key of the optional one found so far and those in the list that pass the test, of equals the first
abbrev pub least_from : (Op → ℕ) → (Op → Bool) → Option Op → List Op → Option Op
least_from key test found [] = found
least_from key test found (op ∷ ops) = least_from key test (less_of key test found op) ops

-- of the operations that pass the test the one of least key, of equal keys the first; or none
abbrev pub least_by : (Op → ℕ) → (Op → Bool) → List Op → Option Op
least_by key test ops = least_from key test None ops

-- the operation is in the list and passes the test, and none in the list that passes has a lesser key
pub record IsLeast (key : Op → ℕ) (test : Op → Bool) (ops : List Op) (op : Op) : Type 0 where
  pub present : Contains ops op
  pub passes : IsTrue (test op)
  pub least : All (λ other. IsTrue (test other) → key op ≤ key other) ops
