-- The steps of a prefix of a trace, as they read, are the first of its steps: no step depends on where a text lies.
use Rattle.std.proofs.Common.{◌≡◌, inl, inr, ℕ, ℤ, ◌+◌, Bool, true, false, cond, List, [], ◌∷◌, ◌++◌, length, map, reverse, find, filter_map, fold, option_map, option_and_then, is_some, eqb, IsTrue, Option, Some, None, Result, Ok, Err, refl, sym, ap, subst, ◌∙◌, append_assoc, append-nil}
use Rattle.std.proofs.lemmas.List.{map-append, reverse-append, length-map}
use Rattle.std.specs.List.{AllZip, cons_option}
use Rattle.edn_reader.specs.Grammar.{ElementModel}
use Rattle.edn_reader.specs.Text.{IsText}
use Rattle.edn_reader.specs.Fault.{IsBeginning, AreElementsBefore, AreElementsSoFar}
use Rattle.edn_reader.specs.Prefixes.{is_run_kind, with_bytes, GoesOnAs, ArePrefix}
use Rattle.edn_reader.proofs.Prefixes.{prefix_same}
use Rattle.intervals.specs.declared.operation.Moment.{Moment}
use Rattle.intervals.specs.declared.operation.RegId.{RegId}
use Rattle.intervals.specs.declared.operation.Value.{Value}
use Rattle.intervals.specs.declared.edit.Change.{Change}
use Rattle.intervals.specs.declared.edit.Edit.{Edit}
use Rattle.intervals.specs.declared.edit.Edit.TheVariants as edits
use Rattle.intervals.specs.declared.edit.Lent.{Lent}
use Rattle.intervals.specs.declared.edit.Lent.TheVariants.{Answer, Amendment}
use Rattle.tower_file.specs.Contents.{TowerModel}
use Rattle.jepsen_form.specs.declared.gist.Gist.{Gist}
use Rattle.jepsen_form.specs.declared.gist.RefusedForm.{RefusedForm}
use Rattle.jepsen_form.specs.declared.gist.Written.{Written}
use Rattle.jepsen_form.specs.declared.fault.FormFault.TheVariants.{NotAMap}
use Rattle.jepsen_form.specs.declared.item.Event.{Event as AnEvent}
use Rattle.jepsen_form.specs.declared.item.Item.{Item}
use Rattle.jepsen_form.specs.declared.item.Item.TheVariants.{Event, Amend, Withdraw, Claim, Ask, Skipped}
use Rattle.jepsen_form.specs.declared.item.MomentField.{MomentField}
use Rattle.jepsen_form.specs.declared.item.Stage.{Stage}
use Rattle.jepsen_form.specs.declared.item.Stage.TheVariants as stages
use Rattle.jepsen_form.specs.Item.{no_gist, with_gist, IsItem, no_map, of_map, text_at, lent_at, lying_at}
use Rattle.pairing.specs.declared.about.About.{About}
use Rattle.pairing.specs.declared.fault.PairFault.{PairFault}
use Rattle.pairing.specs.declared.invocation.Invocation.{Invocation}
use Rattle.pairing.specs.declared.step.Step.{Step}
use Rattle.pairing.specs.About.{written_by_lent, gist_of_item, target_beside, target_of, about_by, about_gist}
use Rattle.pairing.specs.Accepted.{Placed, is_event_of, invocation, last_of, unanswered_of, register_of, event_fault, edit_fault, fault_of, with_accepted, accepted}
use Rattle.pairing.specs.Invocation.{invocation_by, invocation_of}
use Rattle.pairing.specs.Step.{id_of, invoke_step, ok_step, event_step, edit_step, given_by, unless, step_of}
use Rattle.shards.specs.Plain.{PlainLent, PlainEdit, amend, plain_lent, plain_edit}
use Rattle.logs.specs.declared.log.Broken.{Broken}
use Rattle.logs.specs.declared.log.Code.TheVariants.{Form}
use Rattle.logs.specs.Broken.{AreElements}
use Rattle.feeders.specs.Readers.{broke_reading}
use Rattle.logs.specs.Steps.{AreItemsOfTrace, StepResult, placed, placed_from, about_after, by_pairing, step_after, steps_after, steps_of}
use Rattle.feeders.specs.Prefixes.{PlainTaken, edit, plain_step, plain_taken, plain_steps}

-- ---- texts in one place of memory

-- one place in memory, for all texts
here : ℕ × ℕ
here = (0, 0)

abbrev event_here : AnEvent → AnEvent
event_here event = record event { text = text_at here event.text }

abbrev change_here : Change → Change
change_here change = record change { lent = lent_at here change.lent }

abbrev item_here : Item → Item
item_here (Event event) = Event (event_here event)
item_here (Amend of change) = Amend of (change_here change)
item_here (Withdraw of) = Withdraw of
item_here (Claim register kind) = Claim register kind
item_here (Ask register) = Ask register
item_here Skipped = Skipped

abbrev answer_here : Result Item RefusedForm → Result Item RefusedForm
answer_here (Err fault) = Err fault
answer_here (Ok item) = Ok (item_here item)

abbrev placed_here : Placed → Placed
placed_here one = record { place = one.place; item = item_here one.item }

lying_here : (answer : Result Item RefusedForm) → lying_at here answer ≡ answer_here answer
lying_here (Err fault) = refl
lying_here (Ok (Event event)) = refl
lying_here (Ok (Amend of change)) = refl
lying_here (Ok (Withdraw of)) = refl
lying_here (Ok (Claim register kind)) = refl
lying_here (Ok (Ask register)) = refl
lying_here (Ok Skipped) = refl

-- ---- looking back over items whose texts lie elsewhere

same_process : (process : ℤ) (item : Item) → is_event_of process (item_here item) ≡ is_event_of process item
same_process process (Event event) = refl
same_process process (Amend of change) = refl
same_process process (Withdraw of) = refl
same_process process (Claim register kind) = refl
same_process process (Ask register) = refl
same_process process Skipped = refl

same_invocation_by : (place : ℕ) (event : AnEvent) (stage : Stage) (register : Option RegId) → invocation_by place (event_here event) stage register ≡ invocation_by place event stage register
same_invocation_by place event stages.Invoke (Some register) = refl
same_invocation_by place event stages.Invoke None = refl
same_invocation_by place event stages.Ok register = refl
same_invocation_by place event stages.Fail register = refl
same_invocation_by place event stages.Info register = refl

same_invocation : (place : ℕ) (item : Item) → invocation_of place (item_here item) ≡ invocation_of place item
same_invocation place (Event event) = same_invocation_by place event event.answer event.register
same_invocation place (Amend of change) = refl
same_invocation place (Withdraw of) = refl
same_invocation place (Claim register kind) = refl
same_invocation place (Ask register) = refl
same_invocation place Skipped = refl

map-reverse : {A B : Type 0} (f : A → B) (xs : List A) → reverse (map f xs) ≡ map f (reverse xs)
map-reverse f [] = refl
map-reverse f (x ∷ xs) =
    reverse-append (f x ∷ []) (map f xs) ∙ ap (λ ys. ys ++ f x ∷ []) (map-reverse f xs) ∙ sym (map-append f (reverse xs) (x ∷ [])) ∙ sym (ap (map f) (reverse-append (x ∷ []) xs))

found_by : (b c : Bool) (x : Placed) (o p : Option Placed) → c ≡ b → p ≡ option_map placed_here o → cond c (Some (placed_here x)) p ≡ option_map placed_here (cond b (Some x) o)
found_by true c x o p same rest = ap (λ (t : Bool). cond t (Some (placed_here x)) p) same
found_by false c x o p same rest = ap (λ (t : Bool). cond t (Some (placed_here x)) p) same ∙ rest

found_here : (process : ℤ) (xs : List Placed) → find (λ one. is_event_of process one.item) (map placed_here xs) ≡ option_map placed_here (find (λ one. is_event_of process one.item) xs)
found_here process [] = refl
found_here process (x ∷ xs) =
    found_by (is_event_of process x.item) (is_event_of process (item_here x.item)) x (find (λ one. is_event_of process one.item) xs) (find (λ one. is_event_of process one.item) (map placed_here xs))
    (same_process process x.item) (found_here process xs)

same_found : (o : Option Placed) → option_and_then invocation (option_map placed_here o) ≡ option_and_then invocation o
same_found None = refl
same_found (Some one) = same_invocation one.place one.item

same_unanswered : (all : List Placed) (process : ℤ) → unanswered_of (map placed_here all) process ≡ unanswered_of all process
same_unanswered all process =
    ap (λ (xs : List Placed). option_and_then invocation (find (λ one. is_event_of process one.item) xs)) (map-reverse placed_here all)
    ∙ ap (option_and_then invocation) (found_here process (reverse all)) ∙ same_found (last_of all process)

same_invocations : (all : List Placed) → filter_map invocation (map placed_here all) ≡ filter_map invocation all
same_invocations [] = refl
same_invocations (one ∷ all) =
    ap (λ (o : Option Invocation). cons_option o (filter_map invocation (map placed_here all))) (same_invocation one.place one.item)
    ∙ ap (cons_option (invocation one)) (same_invocations all)

same_register : (all : List Placed) (place : ℕ) → register_of (map placed_here all) place ≡ register_of all place
same_register all place = ap (λ (xs : List Invocation). option_map (λ one. one.register) (find (λ one. eqb one.place place) xs)) (same_invocations all)

-- ---- items that are accepted, wherever their texts lie

same_event_fault : (o : Option Invocation) (event : AnEvent) (stage : Stage) → event_fault o (event_here event) stage ≡ event_fault o event stage
same_event_fault None event stages.Invoke = refl
same_event_fault (Some unanswered) event stages.Invoke = refl
same_event_fault None event stages.Ok = refl
same_event_fault (Some unanswered) event stages.Ok = refl
same_event_fault None event stages.Fail = refl
same_event_fault (Some unanswered) event stages.Fail = refl
same_event_fault None event stages.Info = refl
same_event_fault (Some unanswered) event stages.Info = refl

same_fault : (all : List Placed) (item : Item) → fault_of (map placed_here all) (item_here item) ≡ fault_of all item
same_fault all (Event event) =
    ap (λ (o : Option Invocation). event_fault o (event_here event) event.answer) (same_unanswered all event.process) ∙ same_event_fault (unanswered_of all event.process) event event.answer
same_fault all (Amend of change) = ap edit_fault (same_register all of)
same_fault all (Withdraw of) = ap edit_fault (same_register all of)
same_fault all (Claim register kind) = refl
same_fault all (Ask register) = refl
same_fault all Skipped = refl

with_by : (t : Bool) (all : List Placed) (one : Placed) → cond t (map placed_here all) (map placed_here all ++ placed_here one ∷ []) ≡ map placed_here (cond t all (all ++ one ∷ []))
with_by true all one = refl
with_by false all one = sym (map-append placed_here all (one ∷ []))

with_here : (all : List Placed) (one : Placed) → with_accepted (map placed_here all) (placed_here one) ≡ map placed_here (with_accepted all one)
with_here all one =
    ap (λ (o : Option PairFault). cond (is_some o) (map placed_here all) (map placed_here all ++ placed_here one ∷ [])) (same_fault all one.item) ∙ with_by (is_some (fault_of all one.item)) all one

accepted_from : (before items : List Placed) → fold with_accepted (map placed_here before) (map placed_here items) ≡ map placed_here (fold with_accepted before items)
accepted_from before [] = refl
accepted_from before (one ∷ items) = ap (λ (xs : List Placed). fold with_accepted xs (map placed_here items)) (with_here before one) ∙ accepted_from (with_accepted before one) items

accepted_here : (items : List Placed) → accepted (map placed_here items) ≡ map placed_here (accepted items)
accepted_here items = accepted_from [] items

placed_from_here : (place : ℕ) (items : List (Result Item RefusedForm)) → placed_from place (map answer_here items) ≡ map placed_here (placed_from place items)
placed_from_here place [] = refl
placed_from_here place (Err fault ∷ items) = placed_from_here (place + 1) items
placed_from_here place (Ok item ∷ items) = ap (λ (xs : List Placed). record { place = place; item = item_here item } ∷ xs) (placed_from_here (place + 1) items)

-- ---- what an element comes to, wherever its text lies

same_lent : (lent : Lent) → plain_lent (lent_at here lent) ≡ plain_lent lent
same_lent (Answer text) = refl
same_lent (Amendment text) = refl

same_edit : (register : Option RegId) (first second : Edit) → plain_edit first ≡ plain_edit second → option_map plain_step (edit_step register first) ≡ option_map plain_step (edit_step register second)
same_edit None first second e = refl
same_edit (Some register) first second e = ap (λ (plain : PlainEdit). Some (edit register plain)) e

same_invoke : (feeder place : ℕ) (event : AnEvent) (register : Option RegId) (moment : Option Moment)
    → option_map plain_step (invoke_step feeder place (event_here event) register moment) ≡ option_map plain_step (invoke_step feeder place event register moment)
same_invoke feeder place event (Some register) (Some moment) = refl
same_invoke feeder place event (Some register) None = refl
same_invoke feeder place event None moment = refl

same_ok : (feeder : ℕ) (unanswered : Invocation) (event : AnEvent) (moment : Option Moment)
    → option_map plain_step (ok_step feeder unanswered (event_here event) moment) ≡ option_map plain_step (ok_step feeder unanswered event moment)
same_ok feeder unanswered event (Some moment) = refl
same_ok feeder unanswered event None = refl

same_event : (feeder : ℕ) (o : Option Invocation) (place : ℕ) (event : AnEvent) (stage : Stage)
    → option_map plain_step (event_step feeder o place (event_here event) stage) ≡ option_map plain_step (event_step feeder o place event stage)
same_event feeder o place event stages.Invoke = same_invoke feeder place event event.register event.moment
same_event feeder None place event stages.Ok = refl
same_event feeder (Some unanswered) place event stages.Ok = same_ok feeder unanswered event event.moment
same_event feeder None place event stages.Fail = refl
same_event feeder (Some unanswered) place event stages.Fail = refl
same_event feeder o place event stages.Info = refl

same_given : (feeder : ℕ) (all : List Placed) (place : ℕ) (item : Item)
    → option_map plain_step (given_by feeder (map placed_here all) place (item_here item)) ≡ option_map plain_step (given_by feeder all place item)
same_given feeder all place (Event event) =
    ap (λ (o : Option Invocation). option_map plain_step (event_step feeder o place (event_here event) event.answer)) (same_unanswered all event.process)
    ∙ same_event feeder (unanswered_of all event.process) place event event.answer
same_given feeder all place (Amend of change) =
    ap (λ (o : Option RegId). option_map plain_step (edit_step o (edits.Amend (id_of feeder of) (change_here change)))) (same_register all of)
    ∙ same_edit (register_of all of) (edits.Amend (id_of feeder of) (change_here change)) (edits.Amend (id_of feeder of) change)
    (ap (λ (lent : PlainLent). amend (id_of feeder of) (record { value = change.value; begin = change.begin; end = change.end; lent = lent })) (same_lent change.lent))
same_given feeder all place (Withdraw of) = ap (λ (o : Option RegId). option_map plain_step (edit_step o (edits.Withdraw (id_of feeder of)))) (same_register all of)
same_given feeder all place (Claim register kind) = refl
same_given feeder all place (Ask register) = refl
same_given feeder all place Skipped = refl

same_unless : (about : About) (fault : Option PairFault) (first second : Option Step) → option_map plain_step first ≡ option_map plain_step second
    → plain_taken (by_pairing about (unless fault first)) ≡ plain_taken (by_pairing about (unless fault second))
same_unless about None first second e = ap Ok e
same_unless about (Some fault) first second e = refl

same_step : (about : About) (feeder : ℕ) (all : List Placed) (place : ℕ) (item : Item)
    → plain_taken (by_pairing about (step_of feeder (map placed_here all) place (item_here item))) ≡ plain_taken (by_pairing about (step_of feeder all place item))
same_step about feeder all place item =
    ap (λ (fault : Option PairFault). plain_taken (by_pairing about (unless fault (given_by feeder (map placed_here all) place (item_here item))))) (same_fault all item)
    ∙ same_unless about (fault_of all item) (given_by feeder (map placed_here all) place (item_here item)) (given_by feeder all place item) (same_given feeder all place item)

-- ---- what a refused element is about, wherever texts lie

same_for : {A B : Type 0} (f g : A → Option B) → ((x : A) → f x ≡ g x) → (o : Option A) → option_and_then f o ≡ option_and_then g o
same_for f g each None = refl
same_for f g each (Some x) = each x

same_target : (all : List Placed) (gist : Gist) → target_of (map placed_here all) gist ≡ target_of all gist
same_target all gist =
    ap (λ (o : Option Invocation). target_beside o gist.of (option_and_then (register_of (map placed_here all)) gist.of))
    (same_for (unanswered_of (map placed_here all)) (unanswered_of all) (same_unanswered all) gist.answers)
    ∙ ap (λ (o : Option RegId). target_beside (option_and_then (unanswered_of all) gist.answers) gist.of o)
    (same_for (register_of (map placed_here all)) (register_of all) (same_register all) gist.of)

same_about : (feeder : ℕ) (before : List (Result Item RefusedForm)) (gist : Gist) → about_after feeder (map answer_here before) gist ≡ about_after feeder before gist
same_about feeder before gist =
    ap (λ (xs : List Placed). about_gist feeder (accepted xs) gist) (placed_from_here 0 before)
    ∙ ap (λ (xs : List Placed). about_gist feeder xs gist) (accepted_here (placed before))
    ∙ ap (about_by feeder gist) (same_target (accepted (placed before)) gist)

same_written : (lent : Lent) (value : Option Value) → written_by_lent (lent_at here lent) value ≡ written_by_lent lent value
same_written (Answer text) value = refl
same_written (Amendment text) None = refl
same_written (Amendment text) (Some value) = refl

same_gist : (item : Item) → gist_of_item (item_here item) ≡ gist_of_item item
same_gist (Event event) = refl
same_gist (Amend of change) = ap (λ (written : Written). record { answers = None; of = Some of; register = None; written = written; claims = false }) (same_written change.lent change.value)
same_gist (Withdraw of) = refl
same_gist (Claim register kind) = refl
same_gist (Ask register) = refl
same_gist Skipped = refl

same_after : (feeder : ℕ) (before : List (Result Item RefusedForm)) (item : Result Item RefusedForm)
    → plain_taken (step_after feeder (map answer_here before) (answer_here item)) ≡ plain_taken (step_after feeder before item)
same_after feeder before (Err refused) = ap (λ (about : About). Err (record { code = Form refused.fault; about = about })) (same_about feeder before refused.gist)
same_after feeder before (Ok item) =
    let count = length (map answer_here before) in
    let about = about_after feeder before (gist_of_item item) in
    ap (λ (about : About). plain_taken (by_pairing about (step_of feeder (accepted (placed (map answer_here before))) count (item_here item))))
    (same_about feeder before (gist_of_item (item_here item)) ∙ ap (about_after feeder before) (same_gist item))
    ∙ ap (λ (xs : List Placed). plain_taken (by_pairing about (step_of feeder (accepted xs) count (item_here item)))) (placed_from_here 0 before)
    ∙ ap (λ (xs : List Placed). plain_taken (by_pairing about (step_of feeder xs count (item_here item)))) (accepted_here (placed before))
    ∙ ap (λ (n : ℕ). plain_taken (by_pairing about (step_of feeder (map placed_here (accepted (placed before))) n (item_here item)))) (length-map before answer_here)
    ∙ same_step about feeder (accepted (placed before)) (length before) item

same_steps : (feeder : ℕ) (before items : List (Result Item RefusedForm))
    → map plain_taken (steps_after feeder (map answer_here before) (map answer_here items)) ≡ map plain_taken (steps_after feeder before items)
same_steps feeder before [] = refl
same_steps feeder before (item ∷ items) =
    ap (λ (step : PlainTaken). step ∷ map plain_taken (steps_after feeder (map answer_here before ++ answer_here item ∷ []) (map answer_here items))) (same_after feeder before item)
    ∙ ap (λ (xs : List (Result Item RefusedForm)). plain_taken (step_after feeder before item) ∷ map plain_taken (steps_after feeder xs (map answer_here items))) (sym (map-append answer_here before (item ∷ [])))
    ∙ ap (λ (rest : List PlainTaken). plain_taken (step_after feeder before item) ∷ rest) (same_steps feeder (before ++ item ∷ []) items)

-- ---- the items of a prefix of a trace

-- an element has one item, wherever its text lies
abbrev pub OneItem : Type 0
OneItem = (tower : TowerModel) (chosen : MomentField) (piece : ElementModel) (first second : Result Item RefusedForm) (place : ℕ × ℕ) → IsItem tower chosen piece first → IsItem tower chosen piece second
    → lying_at place first ≡ lying_at place second

-- an element whose core is a run is no map
not_a_map : (tower : TowerModel) (chosen : MomentField) (piece : ElementModel) (answer : Result Item RefusedForm) → is_run_kind piece.core.kind ≡ true → IsItem tower chosen piece answer → answer ≡ with_gist no_gist (Err NotAMap)
not_a_map tower chosen piece answer is (no_map none) = refl
not_a_map tower chosen piece answer is (of_map pairs said inner text has says within same) = let both : false ≡ true = sym (ap is_run_kind has.kind) ∙ is in absurd cc

same_answer : OneItem → (tower : TowerModel) (chosen : MomentField) (piece other : ElementModel) (first second : Result Item RefusedForm) → GoesOnAs piece other → IsItem tower chosen piece first → IsItem tower chosen other second
    → answer_here first ≡ answer_here second
same_answer one tower chosen piece other first second (inl same) is also =
    sym (lying_here first) ∙ one tower chosen other first second here (subst (λ (x : ElementModel). IsItem tower chosen x first) same is) also ∙ lying_here second
same_answer one tower chosen piece other first second (inr (run, added, longer)) is also =
    ap answer_here (not_a_map tower chosen piece first run is ∙ sym (not_a_map tower chosen (with_bytes piece added) second run (subst (λ (x : ElementModel). IsItem tower chosen x second) longer also)))

first_items : OneItem → (tower : TowerModel) (chosen : MomentField) (pieces all : List ElementModel) (items others : List (Result Item RefusedForm)) → ArePrefix pieces all → AllZip (IsItem tower chosen) pieces items
    → AllZip (IsItem tower chosen) all others → (rest : List (Result Item RefusedForm)) × (map answer_here others ≡ map answer_here items ++ rest)
first_items one tower chosen [] all [] others prefix read also = (map answer_here others, refl)
first_items one tower chosen [] all (item ∷ items) others prefix read also = absurd read
first_items one tower chosen (piece ∷ pieces) all [] others prefix read also = absurd read
first_items one tower chosen (piece ∷ pieces) [] (item ∷ items) others prefix read also = absurd prefix
first_items one tower chosen (piece ∷ pieces) (other ∷ all) (item ∷ items) [] prefix read also = absurd also
first_items one tower chosen (piece ∷ []) (other ∷ all) (item ∷ []) (answer ∷ others) prefix read also =
    (map answer_here others, ap (λ (x : Result Item RefusedForm). x ∷ map answer_here others) (sym (same_answer one tower chosen piece other item answer prefix read.0 also.0)))
first_items one tower chosen (piece ∷ []) (other ∷ all) (item ∷ second ∷ items) (answer ∷ others) prefix read also = absurd read.1
first_items one tower chosen (piece ∷ second ∷ pieces) (other ∷ all) (item ∷ items) (answer ∷ others) prefix read also =
    let rest = first_items one tower chosen (second ∷ pieces) all items others prefix.1 read.1 also.1 in (
      rest.0,
      ap (λ (x : Result Item RefusedForm). x ∷ map answer_here others) (sym (same_answer one tower chosen piece other item answer (inl prefix.0) read.0 also.0))
          ∙ ap (λ (xs : List (Result Item RefusedForm)). answer_here item ∷ xs) rest.1,
    )

-- ---- the steps of a prefix of a trace

steps_append : (feeder : ℕ) (before xs ys : List (Result Item RefusedForm)) → steps_after feeder before (xs ++ ys) ≡ steps_after feeder before xs ++ steps_after feeder (before ++ xs) ys
steps_append feeder before [] ys = ap (λ (all : List (Result Item RefusedForm)). steps_after feeder all ys) (sym (append-nil before))
steps_append feeder before (x ∷ xs) ys =
    ap (λ (rest : List StepResult). step_after feeder before x ∷ rest) (steps_append feeder (before ++ x ∷ []) xs ys)
    ∙ ap (λ (all : List (Result Item RefusedForm)). (step_after feeder before x ∷ steps_after feeder (before ++ x ∷ []) xs) ++ steps_after feeder all ys) (append_assoc before (x ∷ []) xs)

first_steps : (feeder : ℕ) (items others rest : List (Result Item RefusedForm)) → map answer_here others ≡ map answer_here items ++ rest
    → (later : List PlainTaken) × (plain_steps feeder others ≡ plain_steps feeder items ++ later)
first_steps feeder items others rest e =
    let later = steps_after feeder (map answer_here items) rest in (
      map plain_taken later,
      sym (same_steps feeder [] others) ∙ ap (λ (xs : List (Result Item RefusedForm)). map plain_taken (steps_of feeder xs)) e
          ∙ ap (map plain_taken) (steps_append feeder [] (map answer_here items) rest) ∙ map-append plain_taken (steps_of feeder (map answer_here items)) later
          ∙ ap (λ (xs : List PlainTaken). xs ++ map plain_taken later) (same_steps feeder [] items),
    )

-- the laws of `edn_reader` on the elements of a prefix
pub record OfPrefixes : Type 0 where
  pub before : (bytes more : List ℕ) (pieces all : List ElementModel) → AreElementsBefore bytes pieces → AreElementsBefore (bytes ++ more) all → ArePrefix pieces all
  pub so_far : (bytes more : List ℕ) (pieces all : List ElementModel) → AreElementsSoFar bytes [] pieces → AreElementsBefore (bytes ++ more) all → IsBeginning pieces all
  pub text : (input : List ℕ) (pieces : List ElementModel) → IsText input pieces → AreElementsBefore input pieces

before_fault : OfPrefixes → (trace : List ℕ) (broken : Option Broken) (pieces : List ElementModel) → broke_reading broken ≡ false → AreElements trace broken pieces → AreElementsBefore trace pieces
before_fault law trace None pieces e are = law.text trace pieces are
before_fault law trace (Some broken) pieces e (inl by_text) = by_text.2
before_fault law trace (Some broken) pieces e (inr reading) = let both : false ≡ true = subst IsTrue e reading.0 in absurd cc

is_prefix : OfPrefixes → (bytes more : List ℕ) (broken : Option Broken) (pieces all : List ElementModel) → AreElements bytes broken pieces → AreElementsBefore (bytes ++ more) all → ArePrefix pieces all
is_prefix law bytes more None pieces all are also = law.before bytes more pieces all (law.text bytes pieces are) also
is_prefix law bytes more (Some broken) pieces all (inl by_text) also = law.before bytes more pieces all by_text.2 also
is_prefix law bytes more (Some broken) pieces all (inr reading) also =
    let begins = law.so_far bytes more pieces all reading.3 also in subst (ArePrefix pieces) (sym begins.1) (prefix_same pieces begins.0)

pub prefix_of_steps : OneItem → OfPrefixes → (tower : TowerModel) (chosen : MomentField) (feeder : ℕ) (bytes more : List ℕ) (broken later : Option Broken) (items all : List (Result Item RefusedForm))
    → AreItemsOfTrace tower chosen bytes broken items → AreItemsOfTrace tower chosen (bytes ++ more) later all → broke_reading later ≡ false
    → (rest : List PlainTaken) × (plain_steps feeder all ≡ plain_steps feeder items ++ rest)
prefix_of_steps one law tower chosen feeder bytes more broken later items all are also e =
    let prefix = is_prefix law bytes more broken are.pieces also.pieces are.elements (before_fault law (bytes ++ more) later also.pieces e also.elements) in
    let rest = first_items one tower chosen are.pieces also.pieces items all prefix are.read also.read in
    first_steps feeder items all rest.0 rest.1
