-- A value that no write of a list has.
use Rattle.std.proofs.Common.{◌≡◌, ◌≢◌, ◌≤◌, ◌+◌, ◌⊎◌, inl, inr, ℕ, suc, pos, negsuc, List, [], ◌∷◌, ap, subst, arith}
use Rattle.std.specs.Prelude.{Contains}
use Rattle.intervals.specs.declared.operation.Op.{Op}
use Rattle.intervals.specs.declared.operation.Value.{Value}
use Rattle.intervals.specs.declared.operation.Value.TheVariants.{Nil, Int}
use Rattle.intervals.specs.Kind.{HasNoWrite}
use Rattle.intervals.specs.Operation.{IsWrite, value_of}
use Rattle.intervals.proofs.Members.{all_from}
use Rattle.watch.proofs.Members.{contains_cases, in_none}

-- one more than a natural number, and 0 of every other value
abbrev size : Value → ℕ
size Nil = 0
size (Int (pos n)) = suc n
size (Int (negsuc n)) = 0

abbrev size_of_all : List Op → ℕ
size_of_all [] = 0
size_of_all (a ∷ ops) = size (value_of a.act) + size_of_all ops

-- a value that no operation of the list has
abbrev pub unused : List Op → Value
unused ops = Int (pos (size_of_all ops))

size_at_most : (ops : List Op) (op : Op) → Contains ops op → size (value_of op.act) ≤ size_of_all ops
size_at_most [] op h = absurd (in_none op h)
size_at_most (a ∷ ops) op h = by_cases (contains_cases a ops op h) (size_at_most ops op)
  where
    by_cases : (a ≡ op) ⊎ Contains ops op → (Contains ops op → size (value_of op.act) ≤ size_of_all ops) → size (value_of op.act) ≤ size (value_of a.act) + size_of_all ops
    by_cases (inl e) rest = subst (λ (o : Op). size (value_of o.act) ≤ size (value_of a.act) + size_of_all ops) e (omega arith)
    by_cases (inr k) rest = omega (arith, rest k)

not_so_large : (v : Value) (n : ℕ) → size v ≤ n → v ≢ Int (pos n)
not_so_large v n le e = let same : size v ≡ suc n = ap size e in absurd (omega arith)

pub no_write_unused : (ops : List Op) → HasNoWrite ops (unused ops)
no_write_unused ops = all_from (λ w. IsWrite w → value_of w.act ≢ unused ops) ops (λ w h t. not_so_large (value_of w.act) (size_of_all ops) (size_at_most ops w h))
