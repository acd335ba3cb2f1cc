-- What is added in two steps.
use Rattle.std.proofs.Common.{◌≡◌, ◌∙◌, ◌++◌, List, ap}
use Rattle.std.proofs.lemmas.List.{append_assoc}
use Rattle.records.specs.Symbol.{Symbol}

-- first this, and then that
pub then : (old middle new first second : List Symbol) → middle ≡ old ++ first → new ≡ middle ++ second → new ≡ old ++ (first ++ second)
then old middle new first second p q = q ∙ ap (λ (front : List Symbol). front ++ second) p ∙ append_assoc old first second
