-- One more step after the first.
use Rattle.std.proofs.Common.{◌<◌, ℕ, List, [], ◌∷◌, ◌++◌, drop, length, arith}
use Rattle.std.proofs.lemmas.List.Elements.{All-nil, All-push}
use Rattle.std.specs.Prelude.{All}

pub step_more : (steps : List ℕ) (step : ℕ) → All (λ (s : ℕ). 0 < s) (drop 1 steps) → (0 < length steps → 0 < step) → All (λ (s : ℕ). 0 < s) (drop 1 (steps ++ step ∷ []))
step_more [] step all following = All-nil (λ (s : ℕ). 0 < s)
step_more (first ∷ steps) step all following = All-push (λ (s : ℕ). 0 < s) steps step all (following (omega arith))
