-- The items of a plain trace with their places, and the edits of a register among their steps.
use Rattle.std.proofs.Common.{◌≡◌, ◌<◌, ℕ, ◌+◌, zero, suc, List, [], ◌∷◌, ◌++◌, length, Option, Ok, Err, refl, ap, ◌∙◌, arith, Bool, true, false, ◌==◌, Some, None}
use Rattle.std.specs.Prelude.{All, IfSome, Result, if◌then◌else◌}
use Rattle.std.specs.List.{AllPairs, cons_option}
use Rattle.std.proofs.lemmas.List.{length_push}
use Rattle.std.proofs.lemmas.List.Elements.{All-nil, All-cons, All-head, All-tail}
use Rattle.std.proofs.lemmas.List.Kept.{AllPairs-cons}
use Rattle.intervals.specs.declared.operation.RegId.{RegId}
use Rattle.intervals.specs.declared.edit.Edit.{Edit as AnEdit}
use Rattle.jepsen_form.specs.declared.gist.RefusedForm.{RefusedForm}
use Rattle.jepsen_form.specs.declared.item.Item.{Item}
use Rattle.pairing.specs.declared.about.About.{About}
use Rattle.pairing.specs.declared.fault.PairFault.{PairFault}
use Rattle.pairing.specs.declared.step.Step.{Step}
use Rattle.pairing.specs.About.{gist_of_item}
use Rattle.pairing.specs.Accepted.{Placed, accepted}
use Rattle.pairing.specs.Step.{step_of}
use Rattle.pairing.specs.declared.step.Step.TheVariants as steps
use Rattle.logs.specs.Steps.{StepResult, about_after, by_pairing, edit_on, edits_among, placed, placed_from, steps_after, steps_of}
use Rattle.feeders.proofs.Items.{placed_on, not_placed}
use Rattle.watch.specs.Trace.{IsNoEdit, item_moment, EditsNothing, IsNotAfter, IsInOrderWith, IsPlainTrace}

-- the edit of what an element comes to, as a list, where it is a step on the register; else none
abbrev pub edit_list : RegId → StepResult → List AnEdit
edit_list register (Err left_out) = []
edit_list register (Ok None) = []
edit_list register (Ok (Some (steps.Edit on edit))) = if on.0 == register.0 then edit ∷ [] else []
edit_list register (Ok (Some (steps.Ask on))) = []

-- the same of what the pairing answered; none where it refused
abbrev pub edit_answered : RegId → Result (Option Step) PairFault → List AnEdit
edit_answered register (Ok step) = edit_list register (Ok step)
edit_answered register (Err fault) = []

-- a refusal has no edit, whatever it is about
pub list_answered : (register : RegId) (about : About) (answer : Result (Option Step) PairFault) → edit_list register (by_pairing about answer) ≡ edit_answered register answer
list_answered register about (Ok step) = refl
list_answered register about (Err fault) = refl

-- those of each step, joined
abbrev pub edit_lists : RegId → List StepResult → List AnEdit
edit_lists register [] = []
edit_lists register (step ∷ taken) = edit_list register step ++ edit_lists register taken

-- one more edit, where there is one
cons_list : (register : ℕ) (step : StepResult) (rest : List AnEdit) → cons_option (edit_on register step) rest ≡ edit_list (record { 0 = register }) step ++ rest
cons_list register (Err left_out) rest = refl
cons_list register (Ok None) rest = refl
cons_list register (Ok (Some (steps.Ask on))) rest = refl
cons_list register (Ok (Some (steps.Edit on edit))) rest = by_test (on.0 == register)
  where
    by_test : (t : Bool) → cons_option (if t then Some edit else None) rest ≡ (if t then edit ∷ [] else []) ++ rest
    by_test true = refl
    by_test false = refl

pub among_lists : (register : ℕ) (taken : List StepResult) → edits_among register taken ≡ edit_lists (record { 0 = register }) taken
among_lists register [] = refl
among_lists register (step ∷ taken) =
    ap (cons_option (edit_on register step)) (among_lists register taken) ∙ cons_list register step (edit_lists (record { 0 = register }) taken)

-- the second item has a later place than the first, and no earlier moment where both have one
pub record GoesBefore (a b : Placed) : Type 0 where
  pub place : a.place < b.place
  pub moment : IfSome (item_moment a.item) (λ m. IsNotAfter m (item_moment b.item))

-- items that edit nothing, with rising places and no falling moment
pub record IsPlain (items : List Placed) : Type 0 where
  pub unedited : All (λ one. IsNoEdit one.item) items
  pub order : AllPairs GoesBefore items

-- the edits of the register among the steps of a feeder's items, in order, after the items before
abbrev pub edits_after : ℕ → RegId → List Placed → List Placed → List AnEdit
edits_after feeder register before [] = []
edits_after feeder register before (one ∷ items) =
    edit_answered register (step_of feeder (accepted before) one.place one.item) ++ edits_after feeder register (before ++ one ∷ []) items

abbrev pub edits_of_items : ℕ → RegId → List Placed → List AnEdit
edits_of_items feeder register items = edits_after feeder register [] items

-- the items of elements that edit nothing edit nothing
unedited_from : (place : ℕ) (items : List (Result Item RefusedForm)) → All EditsNothing items → All (λ one. IsNoEdit one.item) (placed_from place items)
unedited_from place [] all = All-nil _
unedited_from place (Err fault ∷ items) all = unedited_from (place + 1) items (All-tail EditsNothing (Err fault) items all)
unedited_from place (Ok item ∷ items) all =
    All-cons (λ one. IsNoEdit one.item) (record { place = place; item = item }) (placed_from (place + 1) items) (All-head EditsNothing (Ok item) items all)
    (unedited_from (place + 1) items (All-tail EditsNothing (Ok item) items all))

-- an item goes before those of later elements
goes_before : (one : Placed) (place : ℕ) (items : List (Result Item RefusedForm)) → one.place < place → All (IsInOrderWith (Ok one.item)) items → All (GoesBefore one) (placed_from place items)
goes_before one place [] lt all = All-nil _
goes_before one place (Err fault ∷ items) lt all = goes_before one (place + 1) items (omega arith) (All-tail (IsInOrderWith (Ok one.item)) (Err fault) items all)
goes_before one place (Ok item ∷ items) lt all =
    All-cons (GoesBefore one) (record { place = place; item = item }) (placed_from (place + 1) items)
    (record { place = lt; moment = All-head (IsInOrderWith (Ok one.item)) (Ok item) items all })
    (goes_before one (place + 1) items (omega arith) (All-tail (IsInOrderWith (Ok one.item)) (Ok item) items all))

first_pairs : (a : Result Item RefusedForm) (items : List (Result Item RefusedForm)) → AllPairs IsInOrderWith (a ∷ items) → All (IsInOrderWith a) items
first_pairs a items pairs k d lt = pairs zero (suc k) d (omega arith) (omega arith)

later_pairs : (a : Result Item RefusedForm) (items : List (Result Item RefusedForm)) → AllPairs IsInOrderWith (a ∷ items) → AllPairs IsInOrderWith items
later_pairs a items pairs i j d lt lt' = pairs (suc i) (suc j) d (omega arith) (omega arith)

order_from : (place : ℕ) (items : List (Result Item RefusedForm)) → AllPairs IsInOrderWith items → AllPairs GoesBefore (placed_from place items)
order_from place [] pairs = λ i j d lt lt'. absurd (omega arith)
order_from place (Err fault ∷ items) pairs = order_from (place + 1) items (later_pairs (Err fault) items pairs)
order_from place (Ok item ∷ items) pairs =
    AllPairs-cons GoesBefore (record { place = place; item = item }) (placed_from (place + 1) items)
    (goes_before (record { place = place; item = item }) (place + 1) items (omega arith) (first_pairs (Ok item) items pairs))
    (order_from (place + 1) items (later_pairs (Ok item) items pairs))

pub plain_placed : (items : List (Result Item RefusedForm)) → IsPlainTrace items → IsPlain (placed items)
plain_placed items trace = record { unedited = unedited_from 0 items trace.unedited; order = order_from 0 items trace.order }

-- the edits among the steps of elements are those of their items
among_following : (feeder : ℕ) (register : RegId) (before items : List (Result Item RefusedForm)) → edit_lists register (steps_after feeder before items) ≡ edits_after feeder register (placed before) (placed_from (length before) items)
among_following feeder register before [] = refl
among_following feeder register before (Err fault ∷ items) =
    among_following feeder register (before ++ Err fault ∷ []) items
    ∙ ap (λ (b : List Placed). edits_after feeder register b (placed_from (length (before ++ Err fault ∷ [])) items)) (not_placed before fault)
    ∙ ap (λ (n : ℕ). edits_after feeder register (placed before) (placed_from n items)) (length_push before (Err fault))
among_following feeder register before (Ok item ∷ items) =
    ap (λ (es : List AnEdit). es ++ edit_lists register (steps_after feeder (before ++ Ok item ∷ []) items))
    (list_answered register (about_after feeder before (gist_of_item item)) (step_of feeder (accepted (placed before)) (length before) item))
    ∙ ap (λ (es : List AnEdit). edit_answered register (step_of feeder (accepted (placed before)) (length before) item) ++ es)
    (among_following feeder register (before ++ Ok item ∷ []) items
    ∙ ap (λ (b : List Placed). edits_after feeder register b (placed_from (length (before ++ Ok item ∷ [])) items)) (placed_on before item)
    ∙ ap (λ (n : ℕ). edits_after feeder register (placed before ++ record { place = length before; item = item } ∷ []) (placed_from n items)) (length_push before (Ok item)))

pub edits_are : (feeder : ℕ) (register : RegId) (items : List (Result Item RefusedForm)) → edit_lists register (steps_of feeder items) ≡ edits_of_items feeder register (placed items)
edits_are feeder register items = among_following feeder register [] items
