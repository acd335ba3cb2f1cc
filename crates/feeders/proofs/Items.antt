-- The items and the steps of a trace, with one element more.
use Rattle.std.proofs.Common.{◌≡◌, ℕ, ◌+◌, List, [], ◌∷◌, ◌++◌, length, Result, Ok, Err, refl, sym, ap, ◌∙◌, arith, append-nil, append_assoc}
use Rattle.jepsen_form.specs.declared.gist.RefusedForm.{RefusedForm}
use Rattle.jepsen_form.specs.declared.item.Item.{Item}
use Rattle.pairing.specs.Accepted.{Placed}
use Rattle.logs.specs.Steps.{StepResult, placed, placed_from, step_after, steps_after, steps_of}

placed_after : (place : ℕ) (items : List (Result Item RefusedForm)) (item : Item) → placed_from place (items ++ Ok item ∷ []) ≡ placed_from place items ++ record { place = place + length items; item = item } ∷ []
placed_after place [] item = ap (λ (n : ℕ). record { place = n; item = item } ∷ []) (omega arith)
placed_after place (Err fault ∷ items) item =
    placed_after (place + 1) items item
    ∙ ap (λ (n : ℕ). placed_from (place + 1) items ++ record { place = n; item = item } ∷ []) (omega arith)
placed_after place (Ok first ∷ items) item =
    ap (λ (rest : List Placed). record { place = place; item = first } ∷ rest) (placed_after (place + 1) items item)
    ∙ ap (λ (n : ℕ). record { place = place; item = first } ∷ placed_from (place + 1) items ++ record { place = n; item = item } ∷ []) (omega arith)

not_placed_after : (place : ℕ) (items : List (Result Item RefusedForm)) (fault : RefusedForm) → placed_from place (items ++ Err fault ∷ []) ≡ placed_from place items
not_placed_after place [] fault = refl
not_placed_after place (Err first ∷ items) fault = not_placed_after (place + 1) items fault
not_placed_after place (Ok first ∷ items) fault = ap (λ (rest : List Placed). record { place = place; item = first } ∷ rest) (not_placed_after (place + 1) items fault)

pub placed_on : (items : List (Result Item RefusedForm)) (item : Item) → placed (items ++ Ok item ∷ []) ≡ placed items ++ record { place = length items; item = item } ∷ []
placed_on items item = placed_after 0 items item ∙ ap (λ (n : ℕ). placed items ++ record { place = n; item = item } ∷ []) (omega arith)

pub not_placed : (items : List (Result Item RefusedForm)) (fault : RefusedForm) → placed (items ++ Err fault ∷ []) ≡ placed items
not_placed items fault = not_placed_after 0 items fault

steps_more : (feeder : ℕ) (before items : List (Result Item RefusedForm)) (item : Result Item RefusedForm) → steps_after feeder before (items ++ item ∷ []) ≡ steps_after feeder before items ++ step_after feeder (before ++ items) item ∷ []
steps_more feeder before [] item = ap (λ (all : List (Result Item RefusedForm)). step_after feeder all item ∷ []) (sym (append-nil before))
steps_more feeder before (first ∷ items) item =
    ap (λ (rest : List StepResult). step_after feeder before first ∷ rest) (steps_more feeder (before ++ first ∷ []) items item)
    ∙ ap (λ (all : List (Result Item RefusedForm)). step_after feeder before first ∷ steps_after feeder (before ++ first ∷ []) items ++ step_after feeder all item ∷ []) (append_assoc before (first ∷ []) items)

pub steps_on : (feeder : ℕ) (items : List (Result Item RefusedForm)) (item : Result Item RefusedForm) → steps_of feeder (items ++ item ∷ []) ≡ steps_of feeder items ++ step_after feeder items item ∷ []
steps_on feeder items item = steps_more feeder [] items item

one_each : (feeder : ℕ) (before items : List (Result Item RefusedForm)) → length (steps_after feeder before items) ≡ length items
one_each feeder before [] = refl
one_each feeder before (item ∷ items) = let rest = one_each feeder (before ++ item ∷ []) items in omega arith

pub one_step_each : (feeder : ℕ) (items : List (Result Item RefusedForm)) → length (steps_of feeder items) ≡ length items
one_step_each feeder items = one_each feeder [] items
