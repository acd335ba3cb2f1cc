-- A tree of few items is low.
use Rattle.std.proofs.Common.{◌≡◌, ◌⊎◌, inl, inr, ℕ, zero, suc, ◌+◌, ◌*◌, ◌^◌, ◌<◌, ◌≤◌, List, [], ◌∷◌, ◌++◌, length, max, arith, length-append}
use Rattle.std.proofs.Math.Nat.{pow-suc}
use Rattle.std.proofs.lemmas.Bool.{cases_lt}
use Rattle.summary_tree.specs.Layers.{DifferByAtMost, IsLow}

module _ {T : Type 0} where
  pub low_empty : IsLow {T = T} [] 0
  low_empty = record { bound = λ d lt. omega arith }

  -- one side has fewer than half of the items, and the other is at most one higher
  half_by : (xs : List T) (x : T) (ys : List T) (l r d : ℕ) → IsLow xs l → IsLow ys r → DifferByAtMost 1 l r → length (xs ++ x ∷ ys) < 2 * 2 ^ d → (length xs < 2 ^ d) ⊎ (2 ^ d ≤ length xs) → max l r + 1 ≤ 2 * suc d
  half_by xs x ys l r d low more near lt (inl few) = omega (arith, low.bound d few, near.0, near.1)
  half_by xs x ys l r d low more near lt (inr many) =
      let few : length ys < 2 ^ d = omega (arith, length-append xs (x ∷ ys), lt, many) in
      omega (arith, more.bound d few, near.0, near.1)

  low_at : (xs : List T) (x : T) (ys : List T) (l r d : ℕ) → IsLow xs l → IsLow ys r → DifferByAtMost 1 l r → length (xs ++ x ∷ ys) < 2 ^ d → max l r + 1 ≤ 2 * d
  low_at xs x ys l r zero low more near lt = absurd (omega (arith, length-append xs (x ∷ ys), lt))
  low_at xs x ys l r (suc d) low more near lt =
      let twice : 2 ^ suc d ≡ 2 ^ d * 2 = pow-suc 2 d in
      half_by xs x ys l r d low more near (omega (arith, lt, twice)) (cases_lt (length xs) (2 ^ d))

  pub low_node : (xs : List T) (x : T) (ys : List T) (l r : ℕ) → IsLow xs l → IsLow ys r → DifferByAtMost 1 l r → IsLow (xs ++ x ∷ ys) (max l r + 1)
  low_node xs x ys l r low more near = record { bound = λ d lt. low_at xs x ys l r d low more near lt }

  -- fewer than 2^64 items, so a height of at most 128
  pub low_within : (items : List T) (height taken : ℕ) → IsLow items height → taken ≡ length items → taken < 2 ^ 64 → height ≤ 128
  low_within items height taken low count range = low.bound 64 (omega (arith, count, range))
