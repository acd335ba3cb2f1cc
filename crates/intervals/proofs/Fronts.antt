-- The operations in the slots before an index, and those from there on.
use Rattle.std.proofs.Common.{◌≡◌, ◌≤◌, ◌+◌, ℕ, zero, suc, List, [], ◌∷◌, ◌++◌, length, Option, Some, None, refl, sym, ap, subst, arith}
use Rattle.std.specs.Prelude.{take, drop}
use Rattle.intervals.specs.declared.operation.Op.{Op}
use Rattle.intervals.specs.Table.{ops_in_slots, slot_at}

abbrev pub front_of : List (Option Op) → ℕ → List Op
front_of slots k = ops_in_slots (take k slots)

abbrev pub rest_of : List (Option Op) → ℕ → List Op
rest_of slots k = ops_in_slots (drop k slots)

pub front_some : (slots : List (Option Op)) (k : ℕ) (op : Op) → slot_at slots k ≡ Some op → front_of slots (suc k) ≡ front_of slots k ++ op ∷ []
front_some [] zero op e = absurd (cc)
front_some [] (suc k) op e = absurd (cc)
front_some (slot ∷ slots) zero op e = ap (λ (s : Option Op). ops_in_slots (s ∷ [])) e
front_some (None ∷ slots) (suc k) op e = front_some slots k op e
front_some (Some a ∷ slots) (suc k) op e = ap (λ (ops : List Op). a ∷ ops) (front_some slots k op e)

pub rest_some : (slots : List (Option Op)) (k : ℕ) (op : Op) → slot_at slots k ≡ Some op → rest_of slots k ≡ op ∷ rest_of slots (suc k)
rest_some [] zero op e = absurd (cc)
rest_some [] (suc k) op e = absurd (cc)
rest_some (slot ∷ slots) zero op e = ap (λ (s : Option Op). ops_in_slots (s ∷ slots)) e
rest_some (slot ∷ slots) (suc k) op e = rest_some slots k op e

pub front_none : (slots : List (Option Op)) (k : ℕ) → slot_at slots k ≡ None → front_of slots (suc k) ≡ front_of slots k
front_none [] zero e = refl
front_none [] (suc k) e = refl
front_none (slot ∷ slots) zero e = ap (λ (s : Option Op). ops_in_slots (s ∷ [])) e
front_none (None ∷ slots) (suc k) e = front_none slots k e
front_none (Some a ∷ slots) (suc k) e = ap (λ (ops : List Op). a ∷ ops) (front_none slots k e)

pub rest_none : (slots : List (Option Op)) (k : ℕ) → slot_at slots k ≡ None → rest_of slots k ≡ rest_of slots (suc k)
rest_none [] zero e = refl
rest_none [] (suc k) e = refl
rest_none (slot ∷ slots) zero e = ap (λ (s : Option Op). ops_in_slots (s ∷ slots)) e
rest_none (slot ∷ slots) (suc k) e = rest_none slots k e

pub rest_past : (slots : List (Option Op)) (k : ℕ) → length slots ≤ k → rest_of slots k ≡ []
rest_past [] zero le = refl
rest_past [] (suc k) le = refl
rest_past (slot ∷ slots) zero le = absurd (omega arith)
rest_past (slot ∷ slots) (suc k) le = rest_past slots k (omega arith)

more : (k : ℕ) → suc k ≡ k + 1
more k = omega arith

-- what is so of the operations before an index with the one there is so of those before the next index
pub front_on : (P : List Op → Type 0) (slots : List (Option Op)) (k : ℕ) (op : Op) → slot_at slots k ≡ Some op → P (front_of slots k ++ op ∷ []) → P (front_of slots (k + 1))
front_on P slots k op at so = subst (λ (n : ℕ). P (front_of slots n)) (more k) (subst P (sym (front_some slots k op at)) so)

pub front_over : (P : List Op → Type 0) (slots : List (Option Op)) (k : ℕ) → slot_at slots k ≡ None → P (front_of slots k) → P (front_of slots (k + 1))
front_over P slots k at so = subst (λ (n : ℕ). P (front_of slots n)) (more k) (subst P (sym (front_none slots k at)) so)

-- the operations before an index and those from there on are all operations
pub all_of : (slots : List (Option Op)) (k : ℕ) → ops_in_slots slots ≡ front_of slots k ++ rest_of slots k
all_of [] zero = refl
all_of [] (suc k) = refl
all_of (slot ∷ slots) zero = refl
all_of (None ∷ slots) (suc k) = all_of slots k
all_of (Some a ∷ slots) (suc k) = ap (λ (ops : List Op). a ∷ ops) (all_of slots k)

-- past the last slot all operations are before the index
pub all_in_front : (slots : List (Option Op)) (k : ℕ) → length slots ≤ k → front_of slots k ≡ ops_in_slots slots
all_in_front [] zero le = refl
all_in_front [] (suc k) le = refl
all_in_front (slot ∷ slots) zero le = absurd (omega (arith, le))
all_in_front (None ∷ slots) (suc k) le = all_in_front slots k (omega (arith, le))
all_in_front (Some a ∷ slots) (suc k) le = ap (λ (ops : List Op). a ∷ ops) (all_in_front slots k (omega (arith, le)))
