-- Steps that may be refused, whatever the refusals are, and what is under a key as the answer of such a step.
use Rattle.std.specs.Prelude.{◌≡◌, Option, Some, None, Result, Ok, Err}
use Rattle.edn_reader.specs.Given.{Given, Missing, One, Many}

infixl 10 ◌>>=◌
-- the second step, from what the first one gave; or the refusal of the first
abbrev pub ◌>>=◌ : {A B E : Type 0} → Result A E → (A → Result B E) → Result B E
(Ok x) >>= f = f x
(Err e) >>= f = Err e

-- what is under a key that must be there once; `missing` where it is not there, `many` where it is there more than once
abbrev pub once : {X E : Type 0} → (missing many : E) → Given X → Result X E
once missing many Missing = Err missing
once missing many (One x) = Ok x
once missing many Many = Err many

-- what is under an optional key, read further, or none where it is not there; `many` where it is there more than once
abbrev pub at_most_once : {X Y E : Type 0} → (many : E) → (X → Result Y E) → Given X → Result (Option Y) E
at_most_once many read Missing = Ok None
at_most_once many read (One x) = read x >>= (λ y. Ok (Some y))
at_most_once many read Many = Err many

-- what a function answered, with its result seen by `view`, is the answer that is due; only private clauses speak of it
abbrev pub GivesSeen : {X Y E : Type 0} → (X → Y) → Result X E → Result Y E → Type 0
GivesSeen view (Ok x) wanted = wanted ≡ Ok (view x)
GivesSeen view (Err fault) wanted = wanted ≡ Err fault
