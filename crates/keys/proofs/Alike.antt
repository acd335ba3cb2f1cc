-- Lists that are alike, place by place.
use Rattle.std.proofs.Common.{◌≡◌, ◌∙◌, ◌<◌, ℕ, suc, List, [], ◌∷◌, Some, None, length, map, refl, ap, arith}
use Rattle.std.specs.Prelude.{IsSomeAnd}
use Rattle.std.specs.List.{slice_get}

-- a list whose elements are those of another one, place by place
pub all_alike : {X Y : Type 0} (f : X → Y) (ys : List Y) (xs : List X) → length ys ≡ length xs → ((n : ℕ) → n < length ys → IsSomeAnd (slice_get xs n) (λ x. slice_get ys n ≡ Some (f x))) → ys ≡ map f xs
all_alike f [] [] many alike = refl
all_alike f [] (x ∷ xs) many alike = absurd cc
all_alike f (y ∷ ys) [] many alike = absurd cc
all_alike {Y = Y} f (y ∷ ys) (x ∷ xs) many alike =
    let first : Some y ≡ Some (f x) = alike 0 (omega arith) in
    let is : y ≡ f x = cc in
    let as_many : length ys ≡ length xs = cc in
    let rest : ys ≡ map f xs = all_alike f ys xs as_many (λ n within. alike (suc n) (omega (arith, within))) in
    ap (λ (one : Y). one ∷ ys) is ∙ ap (λ (more : List Y). f x ∷ more) rest

-- a list of one
pub one_alone : {X : Type 0} (xs : List X) (x : X) → slice_get xs 0 ≡ Some x → slice_get xs 1 ≡ None → xs ≡ x ∷ []
one_alone [] x first none = absurd cc
one_alone (y ∷ []) x first none = cc
one_alone (y ∷ z ∷ xs) x first none = absurd cc
