-- What the step of an item is: of which operation, at which place, and which text it brings.
use Rattle.std.proofs.Common.{◌≡◌, ℕ, zero, suc, ◌+◌, ◌<◌, ◌≤◌, ◌==◌, Bool, true, false, cond, List, [], ◌∷◌, ◌++◌, length, reverse, Option, Some, None, Result, Ok, Err, IfSome, is_some, refl, sym, ap, subst, ◌∙◌, arith, eqb-true, length-append}
use Rattle.std.specs.Prelude.{find, fold, filter_map, option_map, option_and_then}
use Rattle.std.specs.Borrow.{Bor}
use Rattle.std.specs.List.{slice_get, AllByRecursion}
use Rattle.intervals.specs.declared.operation.Moment.{Moment}
use Rattle.intervals.specs.declared.operation.RegId.{RegId}
use Rattle.intervals.specs.declared.edit.Edit.{Edit}
use Rattle.intervals.specs.declared.edit.Edit.TheVariants as edits
use Rattle.intervals.specs.declared.edit.Lent.{Lent}
use Rattle.intervals.specs.declared.edit.Lent.TheVariants as lents
use Rattle.intervals.specs.Edit.{edit_id}
use Rattle.jepsen_form.specs.declared.gist.RefusedForm.{RefusedForm}
use Rattle.jepsen_form.specs.declared.item.Event.{Event as AnEvent}
use Rattle.jepsen_form.specs.declared.item.Item.{Item}
use Rattle.jepsen_form.specs.declared.item.Item.TheVariants as items
use Rattle.jepsen_form.specs.declared.item.Stage.{Stage}
use Rattle.jepsen_form.specs.declared.item.Stage.TheVariants as stages
use Rattle.pairing.specs.declared.about.About.{About}
use Rattle.pairing.specs.declared.fault.PairFault.{PairFault}
use Rattle.pairing.specs.declared.invocation.Invocation.{Invocation}
use Rattle.pairing.specs.declared.step.Step.{Step}
use Rattle.pairing.specs.declared.step.Step.TheVariants as steps
use Rattle.pairing.specs.About.{gist_of_item}
use Rattle.pairing.specs.Accepted.{Placed, invocation as invoked, is_event_of, last_of, unanswered_of, register_of, fault_of, with_accepted, accepted}
use Rattle.pairing.specs.Step.{id_of, append_of, amendment_of, invoke_step, ok_step, event_step, edit_step, given_by, unless}
use Rattle.pairing.proofs.Standing.{invocation_place}
use Rattle.logs.specs.Steps.{about_after, placed_from, placed, by_pairing, step_after, steps_after, steps_of}
use Rattle.feeders.specs.Texts.{TextKind, invocation, answer, amendment, text_of, text_in, settled, brought_at, brought, IsPlaced}
use Rattle.feeders.proofs.TextsItems.{Carries}
use Rattle.feeders.proofs.TextsLists.{all_reverse, all_found, all_filter_map}

-- items that are all before a place

abbrev Before : ℕ → List Placed → Type 0
Before place taken = AllByRecursion (λ one. one.place < place) taken

before_placed : (place n : ℕ) (items : List (Result Item RefusedForm)) → place + length items ≤ n → Before n (placed_from place items)
before_placed place n [] le = tt
before_placed place n (Err fault ∷ items) le = before_placed (place + 1) n items (omega arith)
before_placed place n (Ok item ∷ items) le = (omega arith, before_placed (place + 1) n items (omega arith))

before_more : (place : ℕ) (taken : List Placed) (one : Placed) → Before place taken → one.place < place → Before place (taken ++ one ∷ [])
before_more place [] one h lt = (lt, tt)
before_more place (first ∷ taken) one h lt = (h.0, before_more place taken one h.1 lt)

before_with : (place : ℕ) (taken : List Placed) (one : Placed) → Before place taken → one.place < place → Before place (with_accepted taken one)
before_with place taken one h lt = by_test (is_some (fault_of taken one.item))
  where
    by_test : (t : Bool) → Before place (cond t taken (taken ++ one ∷ []))
    by_test true = h
    by_test false = before_more place taken one h lt

before_all : (place : ℕ) (taken items : List Placed) → Before place taken → Before place items → Before place (fold with_accepted taken items)
before_all place taken [] h k = h
before_all place taken (one ∷ items) h k = before_all place (with_accepted taken one) items (before_with place taken one h k.0) k.1

before_accepted : (items : List (Result Item RefusedForm)) → Before (length items) (accepted (placed items))
before_accepted items = before_all (length items) [] (placed items) tt (before_placed 0 (length items) items (omega arith))

same_some : {X : Type 0} (x y : X) → Some x ≡ Some y → x ≡ y
same_some x y e = cc

module _ (place : ℕ) (taken : List Placed) (before : Before place taken) where
  unanswered_before : (event : AnEvent) (unanswered : Invocation) → unanswered_of taken event.process ≡ Some unanswered → unanswered.place < place
  unanswered_before event unanswered is = by_last (last_of taken event.process) refl is
    where
      by_last : (last : Option Placed) → last_of taken event.process ≡ last → option_and_then invoked last ≡ Some unanswered → unanswered.place < place
      by_last None e g = absurd (cc)
      by_last (Some one) e g =
          let found = all_found (λ (one : Placed). one.place < place) (λ (one : Placed). is_event_of event.process one.item) (reverse taken) one (all_reverse (λ (one : Placed). one.place < place) taken before) e in
          subst (λ (n : ℕ). n < place) (sym (invocation_place one.place one.item unanswered g)) found.0

  register_before : (of : ℕ) (register : RegId) → register_of taken of ≡ Some register → of < place
  register_before of register is = by_found (find (λ one. one.place == of) (filter_map invoked taken)) refl is
    where
      by_found : (found : Option Invocation) → find (λ one. one.place == of) (filter_map invoked taken) ≡ found → option_map (λ one. one.register) found ≡ Some register → of < place
      by_found None e g = absurd (cc)
      by_found (Some said) e g =
          let all = all_filter_map (λ (one : Placed). one.place < place) (λ (said : Invocation). said.place < place) invoked
          (λ one said is lt. subst (λ (n : ℕ). n < place) (sym (invocation_place one.place one.item said is)) lt) taken before in
          let found = all_found (λ (said : Invocation). said.place < place) (λ (said : Invocation). said.place == of) (filter_map invoked taken) said all e in
          subst (λ (n : ℕ). n < place) (eqb-true said.place of found.1) found.0

-- the step of an item

-- the edit is of the feeder's operation, may be at the place, and a text that it brings is of this kind and these bytes
pub record IsEditAt (feeder place : ℕ) (bytes : List ℕ) (part_is : Option TextKind) (edit : Edit) : Type 0 where
  pub own : IfSome (edit_id edit) (λ id. id.feeder ≡ feeder)
  pub placed : IsPlaced place edit
  pub texts : (part : TextKind) (text : Bor (List ℕ)) → settled part edit ≡ Some (Some text) → (part_is ≡ Some part) × (text.now ≡ bytes)

same_text : (text other : Bor (List ℕ)) (bytes : List ℕ) → other.now ≡ bytes → Some (Some other) ≡ Some (Some text) → text.now ≡ bytes
same_text text other bytes is e = let same : other ≡ text = cc in ap (λ (t : Bor (List ℕ)). t.now) (sym same) ∙ is

append_texts : (invoked : Bor (List ℕ)) (bytes : List ℕ) → invoked.now ≡ bytes → (part : TextKind) (text : Bor (List ℕ))
    → Some (text_of part (record { invocation = invoked; answer = None; amendment = None })) ≡ Some (Some text) → (Some invocation ≡ Some part) × (text.now ≡ bytes)
append_texts invoked bytes is invocation text e = (refl, same_text text invoked bytes is e)
append_texts invoked bytes is answer text e = absurd (cc)
append_texts invoked bytes is amendment text e = absurd (cc)

answer_texts : (lent : Bor (List ℕ)) (bytes : List ℕ) → lent.now ≡ bytes → (part : TextKind) (text : Bor (List ℕ)) → option_map Some (text_in part (lents.Answer lent)) ≡ Some (Some text) → (Some answer ≡ Some part) × (text.now ≡ bytes)
answer_texts lent bytes is invocation text e = absurd (cc)
answer_texts lent bytes is answer text e = (refl, same_text text lent bytes is e)
answer_texts lent bytes is amendment text e = absurd (cc)

amendment_texts : (lent : Bor (List ℕ)) (bytes : List ℕ) → lent.now ≡ bytes → (part : TextKind) (text : Bor (List ℕ)) → option_map Some (text_in part (lents.Amendment lent)) ≡ Some (Some text) → (Some amendment ≡ Some part) × (text.now ≡ bytes)
amendment_texts lent bytes is invocation text e = absurd (cc)
amendment_texts lent bytes is answer text e = absurd (cc)
amendment_texts lent bytes is amendment text e = (refl, same_text text lent bytes is e)

edit_of : (register other : RegId) (edit another : Edit) → Some (steps.Edit register edit) ≡ Some (steps.Edit other another) → edit ≡ another
edit_of register other edit another e = cc

withdraws : (feeder place of : ℕ) (bytes : List ℕ) (part_is : Option TextKind) → of < place → IsEditAt feeder place bytes part_is (edits.Withdraw (id_of feeder of))
withdraws feeder place of bytes part_is lt = record { own = refl; placed = lt; texts = λ part text e. absurd (cc) }

module _ (feeder place : ℕ) (bytes : List ℕ) (register : RegId) (edit : Edit) where
  of_invoke : (event : AnEvent) (on : Option RegId) (moment : Option Moment) → event.text.now ≡ bytes → invoke_step feeder place event on moment ≡ Some (steps.Edit register edit) → IsEditAt feeder place bytes (Some invocation) edit
  of_invoke event (Some on) (Some moment) is e =
      subst (IsEditAt feeder place bytes (Some invocation)) (edit_of on register (append_of feeder place event moment) edit e)
      (record { own = refl; placed = refl; texts = append_texts event.text bytes is })
  of_invoke event (Some on) None is e = absurd (cc)
  of_invoke event None (Some moment) is e = absurd (cc)
  of_invoke event None None is e = absurd (cc)

  of_ok : (event : AnEvent) (unanswered : Invocation) (moment : Option Moment) → event.text.now ≡ bytes → unanswered.place < place → ok_step feeder unanswered event moment ≡ Some (steps.Edit register edit) → IsEditAt feeder place bytes (Some answer) edit
  of_ok event unanswered (Some moment) is lt e =
      subst (IsEditAt feeder place bytes (Some answer)) (edit_of unanswered.register register (amendment_of feeder unanswered event moment) edit e)
      (record { own = refl; placed = lt; texts = answer_texts event.text bytes is })
  of_ok event unanswered None is lt e = absurd (cc)

  of_event : (event : AnEvent) (stage : Stage) (unanswered : Option Invocation) → event.text.now ≡ bytes → ((one : Invocation) → unanswered ≡ Some one → one.place < place)
      → event_step feeder unanswered place event stage ≡ Some (steps.Edit register edit) → IsEditAt feeder place bytes (brought_at stage) edit
  of_event event stages.Invoke unanswered is lower e = of_invoke event event.register event.moment is e
  of_event event stages.Ok None is lower e = absurd (cc)
  of_event event stages.Ok (Some one) is lower e = of_ok event one event.moment is (lower one refl) e
  of_event event stages.Fail None is lower e = absurd (cc)
  of_event event stages.Fail (Some one) is lower e =
      subst (IsEditAt feeder place bytes None) (edit_of one.register register (edits.Withdraw (id_of feeder one.place)) edit e) (withdraws feeder place one.place bytes None (lower one refl))
  of_event event stages.Info None is lower e = absurd (cc)
  of_event event stages.Info (Some one) is lower e = absurd (cc)

  of_edit : (part_is : Option TextKind) (of : ℕ) (given : Edit) (on : Option RegId) → ((one : RegId) → on ≡ Some one → of < place) → (of < place → IsEditAt feeder place bytes part_is given)
      → edit_step on given ≡ Some (steps.Edit register edit) → IsEditAt feeder place bytes part_is edit
  of_edit part_is of given (Some one) lower is e = subst (IsEditAt feeder place bytes part_is) (edit_of one register given edit e) (is (lower one refl))
  of_edit part_is of given None lower is e = absurd (cc)

  of_item : (taken : List Placed) (item : Item) → Before place taken → Carries bytes item → given_by feeder taken place item ≡ Some (steps.Edit register edit) → IsEditAt feeder place bytes (brought item) edit
  of_item taken (items.Event event) before is e =
      of_event event event.answer (unanswered_of taken event.process) is (unanswered_before place taken before event) e
  of_item taken (items.Amend of change) before is e =
      of_edit (Some amendment) of (edits.Amend (id_of feeder of) change) (register_of taken of) (register_before place taken before of)
      (λ lt. record { own = refl; placed = lt; texts = subst (λ (lent : Lent). (part : TextKind) (text : Bor (List ℕ)) → option_map Some (text_in part lent) ≡ Some (Some text) → (Some amendment ≡ Some part) × (text.now ≡ bytes)) (sym is.1) (amendment_texts is.0 bytes is.2) }) e
  of_item taken (items.Withdraw of) before is e =
      of_edit None of (edits.Withdraw (id_of feeder of)) (register_of taken of) (register_before place taken before of) (withdraws feeder place of bytes None) e
  of_item taken (items.Claim on kind) before is e =
      subst (IsEditAt feeder place bytes None) (edit_of on register (edits.Claim kind) edit e) (record { own = tt; placed = tt; texts = λ part text e. absurd (cc) })
  of_item taken (items.Ask on) before is e = absurd (cc)
  of_item taken items.Skipped before is e = absurd (cc)

  of_step : (about : About) (fault : Option PairFault) (step : Option Step) → by_pairing about (unless fault step) ≡ Ok (Some (steps.Edit register edit)) → step ≡ Some (steps.Edit register edit)
  of_step about None step e = cc
  of_step about (Some fault) step e = absurd (cc)

-- the item at the place of a step that is an edit
pub record IsFromItem (feeder : ℕ) (items : List (Result Item RefusedForm)) (place : ℕ) (edit : Edit) : Type 0 where
  pub item : Item
  pub item_is : slice_get items place ≡ Some (Ok item)
  pub edit_is : (bytes : List ℕ) → Carries bytes item → IsEditAt feeder place bytes (brought item) edit

of_after : (feeder n : ℕ) (front : List (Result Item RefusedForm)) (one : Result Item RefusedForm) (register : RegId) (edit : Edit) → length front ≡ n → step_after feeder front one ≡ Ok (Some (steps.Edit register edit))
    → (item : Item) × (one ≡ Ok item) × ((bytes : List ℕ) → Carries bytes item → IsEditAt feeder n bytes (brought item) edit)
of_after feeder n front (Err fault) register edit at e = absurd (cc)
of_after feeder n front (Ok item) register edit at e = (
  item,
  refl,
  λ bytes is. subst (λ (k : ℕ). IsEditAt feeder k bytes (brought item) edit) at
      (of_item feeder (length front) bytes register edit (accepted (placed front)) item (before_accepted front) is
      (of_step feeder (length front) bytes register edit (about_after feeder front (gist_of_item item)) (fault_of (accepted (placed front)) item) (given_by feeder (accepted (placed front)) (length front) item) e)),
)

from_item : (feeder : ℕ) (before rest : List (Result Item RefusedForm)) (k n : ℕ) (register : RegId) (edit : Edit) → n ≡ length before + k
    → slice_get (steps_after feeder before rest) k ≡ Some (Ok (Some (steps.Edit register edit)))
    → (item : Item) × (slice_get rest k ≡ Some (Ok item)) × ((bytes : List ℕ) → Carries bytes item → IsEditAt feeder n bytes (brought item) edit)
from_item feeder before [] k n register edit at e = absurd (cc)
from_item feeder before (one ∷ rest) zero n register edit at e =
    let r = of_after feeder n before one register edit (omega (arith, at)) (same_some _ _ e) in
    (r.0, ap (λ (x : Result Item RefusedForm). Some x) r.1, r.2)
from_item feeder before (one ∷ rest) (suc k) n register edit at e =
    from_item feeder (before ++ one ∷ []) rest k n register edit (omega (arith, at, length-append before (one ∷ []))) e

pub step_is_of_item : (feeder : ℕ) (items : List (Result Item RefusedForm)) (place : ℕ) (register : RegId) (edit : Edit)
    → slice_get (steps_of feeder items) place ≡ Some (Ok (Some (steps.Edit register edit))) → IsFromItem feeder items place edit
step_is_of_item feeder items place register edit e =
    let r = from_item feeder [] items place place register edit (omega arith) e in
    record { item = r.0; item_is = r.1; edit_is = r.2 }
