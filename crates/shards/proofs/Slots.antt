-- The slot of a register in its shard, and lists with one element set or added.
use Rattle.std.proofs.Common.{◌≡◌, ◌≢◌, ℕ, zero, suc, ◌+◌, ◌*◌, ◌/◌, ◌%◌, ◌<◌, List, [], ◌∷◌, ◌++◌, set, length, Some, refl, sym, ap, ◌∙◌, arith}
use Rattle.std.specs.List.{slice_get}
use Rattle.std.proofs.lemmas.Nat.{div-add-mod', div-mul-add}
use Rattle.std.proofs.lemmas.Option.{same_Some}

pub register_of : (register shards at : ℕ) → register % shards ≡ at → register / shards * shards + at ≡ register
register_of register shards at here = ap (λ (rest : ℕ). register / shards * shards + rest) (sym here) ∙ div-add-mod' register shards

pub slot_of : (register shards at slot : ℕ) → at < shards → slot * shards + at ≡ register → slot ≡ register / shards
slot_of register shards at slot below is = sym (div-mul-add slot shards at below) ∙ ap (λ (n : ℕ). n / shards) is

pub some_within : {X : Type 0} (xs : List X) (i : ℕ) → i < length xs → (x : X) × (slice_get xs i ≡ Some x)
some_within [] i below = absurd (omega arith)
some_within (x ∷ xs) zero below = (x, refl)
some_within (x ∷ xs) (suc i) below = some_within xs i (omega arith)

pub get_set_same : {X : Type 0} (xs : List X) (k : ℕ) (y : X) → k < length xs → slice_get (set xs k y) k ≡ Some y
get_set_same [] k y below = absurd (omega arith)
get_set_same (x ∷ xs) zero y below = refl
get_set_same (x ∷ xs) (suc k) y below = get_set_same xs k y (omega arith)

pub get_set_other : {X : Type 0} (xs : List X) (k i : ℕ) (y : X) → i ≢ k → slice_get (set xs k y) i ≡ slice_get xs i
get_set_other [] k i y other = refl
get_set_other (x ∷ xs) zero zero y other = absurd (other refl)
get_set_other (x ∷ xs) zero (suc i) y other = refl
get_set_other (x ∷ xs) (suc k) zero y other = refl
get_set_other (x ∷ xs) (suc k) (suc i) y other = get_set_other xs k i y (λ same. other (ap suc same))

pub get_push_below : {X : Type 0} (xs : List X) (y : X) (i : ℕ) → i < length xs → slice_get (xs ++ y ∷ []) i ≡ slice_get xs i
get_push_below [] y i below = absurd (omega arith)
get_push_below (x ∷ xs) y zero below = refl
get_push_below (x ∷ xs) y (suc i) below = get_push_below xs y i (omega arith)

pub get_push_at : {X : Type 0} (xs : List X) (y : X) → slice_get (xs ++ y ∷ []) (length xs) ≡ Some y
get_push_at [] y = refl
get_push_at (x ∷ xs) y = get_push_at xs y

pub set_as_it_is : {X : Type 0} (xs : List X) (k : ℕ) (x : X) → slice_get xs k ≡ Some x → set xs k x ≡ xs
set_as_it_is [] k x is = refl
set_as_it_is {X = X} (y ∷ ys) zero x is = ap (λ (z : X). z ∷ ys) (sym (same_Some y x is))
set_as_it_is {X = X} (y ∷ ys) (suc k) x is = ap (λ (zs : List X). y ∷ zs) (set_as_it_is ys k x is)
