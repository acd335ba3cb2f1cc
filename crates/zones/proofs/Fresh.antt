-- A whole number that no operation has.
use Rattle.std.proofs.Common.{◌≡◌, ◌≢◌, ◌≤◌, ◌+◌, ◌⊎◌, inl, inr, ℕ, suc, pos, List, [], ◌∷◌, ap, subst, arith}
use Rattle.std.specs.Prelude.{Contains}
use Rattle.intervals.specs.declared.operation.Op.{Op}
use Rattle.intervals.specs.declared.operation.Value.{Value}
use Rattle.intervals.specs.declared.operation.Value.TheVariants.{Int}
use Rattle.intervals.specs.Kind.{HasNoWrite}
use Rattle.intervals.specs.Operation.{IsWrite, value_of}
use Rattle.zones.specs.AtFirst.{size_of, size_of_all, unused_value}
use Rattle.zones.proofs.Members.{all_from, contains_cases, in_none}

-- a value whose size is at most n is not n
smaller_is_other : (v : Value) (n : ℕ) → size_of v ≤ n → v ≢ Int (pos n)
unfolding size_of
smaller_is_other v n le e = let same : size_of v ≡ suc n = ap size_of e in absurd (omega arith)

size_at_most : (ops : List Op) (op : Op) → Contains ops op → size_of (value_of op.act) ≤ size_of_all ops
unfolding size_of_all
size_at_most [] op h = absurd (in_none op h)
size_at_most (a ∷ ops) op h = by_cases (contains_cases a ops op h) (size_at_most ops op)
  where
    by_cases : (a ≡ op) ⊎ Contains ops op → (Contains ops op → size_of (value_of op.act) ≤ size_of_all ops) → size_of (value_of op.act) ≤ size_of (value_of a.act) + size_of_all ops
    by_cases (inl e) rest = subst (λ (o : Op). size_of (value_of o.act) ≤ size_of (value_of a.act) + size_of_all ops) e (omega arith)
    by_cases (inr k) rest = omega (arith, rest k)

pub fresh_is_new : (ops : List Op) (op : Op) → Contains ops op → value_of op.act ≢ unused_value ops
unfolding unused_value
fresh_is_new ops op h = smaller_is_other (value_of op.act) (size_of_all ops) (size_at_most ops op h)

pub fresh_not_written : (ops : List Op) → HasNoWrite ops (unused_value ops)
fresh_not_written ops = all_from (λ w. IsWrite w → value_of w.act ≢ unused_value ops) ops (λ w h t. fresh_is_new ops w h)
