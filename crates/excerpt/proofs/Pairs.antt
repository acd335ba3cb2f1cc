-- What is so of two lists, place by place.
use Rattle.std.proofs.Common.{◌≡◌, ◌<◌, ◌+◌, ℕ, zero, suc, List, [], ◌∷◌, length, take, get_or, subst, arith}
use Rattle.std.specs.List.{AllZip}

next_place : {X Y : Type 0} (R : X → Y → Type 0) (xs : List X) (ys : List Y) (n : ℕ) (x : X) (y : Y) → n < length xs → length xs ≡ length ys → AllZip R (take n xs) (take n ys)
    → R (get_or xs n x) (get_or ys n y) → AllZip R (take (suc n) xs) (take (suc n) ys)
next_place R [] ys n x y within many so_far is = absurd (omega (arith, within))
next_place R (a ∷ xs) [] n x y within many so_far is = absurd cc
next_place R (a ∷ xs) (b ∷ ys) zero x y within many so_far is = (is, tt)
next_place R (a ∷ xs) (b ∷ ys) (suc n) x y within many so_far is =
    let as_many : length xs ≡ length ys = cc in
    (so_far.0, next_place R xs ys n x y (omega (arith, within)) as_many so_far.1 is)

-- one more place of two lists
pub one_more_place : {X Y : Type 0} (R : X → Y → Type 0) (xs : List X) (ys : List Y) (n : ℕ) (x : X) (y : Y) → n < length xs → length xs ≡ length ys → AllZip R (take n xs) (take n ys)
    → R (get_or xs n x) (get_or ys n y) → AllZip R (take (n + 1) xs) (take (n + 1) ys)
one_more_place R xs ys n x y within many so_far is =
    let next : suc n ≡ n + 1 = omega arith in
    subst (λ (k : ℕ). AllZip R (take k xs) (take k ys)) next (next_place R xs ys n x y within many so_far is)
