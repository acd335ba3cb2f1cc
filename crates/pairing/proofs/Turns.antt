-- The accepted events of a process take turns: an invocation, then its answer.
use Rattle.std.proofs.Common.{◌≡◌, ℕ, ℤ, Bool, true, false, not, List, [], ◌∷◌, ◌++◌, find, ◌⊎◌, inl, inr, Option, Some, None, Ok, is_some, is_none, if◌then◌else◌, IsTrue, ◌||◌, refl, sym, ◌∙◌, ap, subst, append_assoc}
use mathlib.Core.Bool.{false≢true}
use Rattle.std.specs.List.{list_any, fold}
use Rattle.std.specs.Option.{option_and_then, ForSome}
use Rattle.std.proofs.lemmas.List.{reverse-append, append-nil}
use Rattle.std.proofs.lemmas.Bool.Decides.{Decides-int_eq}
use Rattle.intervals.specs.declared.operation.RegId.{RegId}
use Rattle.intervals.specs.declared.operation.Moment.{Moment}
use Rattle.intervals.specs.declared.edit.Edit.TheVariants as edits
use Rattle.jepsen_form.specs.declared.item.Event.{Event as AnEvent}
use Rattle.jepsen_form.specs.declared.item.Item.{Item}
use Rattle.jepsen_form.specs.declared.item.Item.TheVariants.{Event, Amend, Withdraw, Claim, Ask, Skipped}
use Rattle.jepsen_form.specs.declared.item.Stage.{Stage}
use Rattle.jepsen_form.specs.declared.item.Stage.TheVariants as stages
use Rattle.pairing.specs.declared.fault.PairFault.{PairFault}
use Rattle.pairing.specs.declared.invocation.Invocation.{Invocation}
use Rattle.pairing.specs.declared.step.Step.{Step}
use Rattle.pairing.specs.declared.step.Step.TheVariants as steps
use Rattle.pairing.specs.Invocation.{invocation_by, invocation_of}
use Rattle.pairing.specs.Accepted.{Placed, is_event_of, invocation, last_of, unanswered_of, fault_of, event_fault, with_accepted, accepted}
use Rattle.pairing.specs.Step.{id_of, step_of, ok_step, amendment_of, event_step, unless}
use Rattle.pairing.specs.Answering.{invokes, is_invocation, IsSilent, IsFirstEvent, IsNext, step_id}
use Rattle.jepsen_form.specs.Whole.{HasWhatItNeeds, IsWhole}
use Rattle.pairing.proofs.Standing.{invocation_place}

-- each of these items is accepted after those before it
abbrev pub IsAccepted : List Placed → Type 0
IsAccepted taken = (front : List Placed) (one : Placed) (rest : List Placed) → taken ≡ front ++ one ∷ rest → is_some (fault_of front one.item) ≡ false

-- an element of a list with one more at its end is that last one, or is in the list before it
data Parts (taken : List Placed) (more : Placed) (front : List Placed) (one : Placed) : Type 0 where
  At_the_end : front ≡ taken → one ≡ more → Parts taken more front one
  Before_it : (rest : List Placed) → taken ≡ front ++ one ∷ rest → Parts taken more front one

tail_of : (x y : Placed) (xs ys : List Placed) → x ∷ xs ≡ y ∷ ys → xs ≡ ys
tail_of x y xs ys same = cc

head_of : (x y : Placed) (xs ys : List Placed) → x ∷ xs ≡ y ∷ ys → x ≡ y
head_of x y xs ys same = cc

parts_of : (taken : List Placed) (more : Placed) (front : List Placed) (one : Placed) (rest : List Placed) → taken ++ more ∷ [] ≡ front ++ one ∷ rest → Parts taken more front one
parts_of [] more [] one rest same = At_the_end refl (sym (head_of more one [] rest same))
parts_of [] more (f ∷ []) one rest same = let tail = tail_of more f [] (one ∷ rest) same in cc
parts_of [] more (f ∷ (g ∷ front)) one rest same = let tail = tail_of more f [] (g ∷ (front ++ one ∷ rest)) same in cc
parts_of (t ∷ taken) more [] one rest same = Before_it taken (ap (λ x. x ∷ taken) (head_of t one (taken ++ more ∷ []) rest same))
parts_of (t ∷ taken) more (f ∷ front) one rest same =
    let heads = head_of t f (taken ++ more ∷ []) (front ++ one ∷ rest) same in
    elim (parts_of taken more front one rest (tail_of t f (taken ++ more ∷ []) (front ++ one ∷ rest) same)) [
      | At_the_end at is ↦ At_the_end (cc) is
      | Before_it after is ↦ Before_it after (cc)
    ]

one_more : (taken : List Placed) (more : Placed) → IsAccepted taken → is_some (fault_of taken more.item) ≡ false → IsAccepted (taken ++ more ∷ [])
one_more taken more so_far fine front one rest same = elim (parts_of taken more front one rest same) [
  | At_the_end at is ↦ rw (at, is) fine
  | Before_it after is ↦ so_far front one after is
]

with_more : (taken : List Placed) (more : Placed) → IsAccepted taken → IsAccepted (with_accepted taken more)
with_more taken more so_far = by_test taken more so_far (is_some (fault_of taken more.item)) refl
  where
    by_test : (taken : List Placed) (more : Placed) → IsAccepted taken → (test : Bool) → is_some (fault_of taken more.item) ≡ test → IsAccepted (if test then taken else taken ++ more ∷ [])
    by_test taken more so_far true is = so_far
    by_test taken more so_far false is = one_more taken more so_far is

after_all : (taken items : List Placed) → IsAccepted taken → IsAccepted (fold with_accepted taken items)
after_all taken [] so_far = so_far
after_all taken (one ∷ items) so_far = after_all (with_accepted taken one) items (with_more taken one so_far)

-- each accepted item has no fault after the accepted items before it
accepted_each : (items : List Placed) → IsAccepted (accepted items)
accepted_each items = after_all [] items none
  where
    none : IsAccepted []
    none [] one rest same = cc
    none (f ∷ front) one rest same = cc

both_false : (a b : Bool) → (a || b) ≡ false → (a ≡ false) × (b ≡ false)
both_false true b none = cc
both_false false b none = (refl, none)

last_push : (process : ℤ) (front : List Placed) (one : Placed) → last_of (front ++ one ∷ []) process ≡ (if is_event_of process one.item then Some one else last_of front process)
last_push process front one = ap (find (λ other. is_event_of process other.item)) (reverse-append front (one ∷ []))

-- items without an event of a process leave its last event
last_silent : (process : ℤ) (front silent : List Placed) → IsSilent process silent → last_of (front ++ silent) process ≡ last_of front process
last_silent process front [] quiet = ap (λ items. last_of items process) (append-nil front)
last_silent process front (one ∷ silent) quiet =
    let quiets = both_false (is_event_of process one.item) (list_any (λ other. is_event_of process other.item) silent) quiet in
    let here : last_of (front ++ one ∷ []) process ≡ last_of front process = last_push process front one ∙ rw quiets.0 refl in
    ap (λ items. last_of items process) (sym (append_assoc front (one ∷ []) silent)) ∙ last_silent process (front ++ one ∷ []) silent quiets.1 ∙ here

-- an event of a process that no event of the process follows is its last
last_here : (process : ℤ) (before : List Placed) (one : Placed) (silent : List Placed) → IsTrue (is_event_of process one.item) → IsSilent process silent → last_of (before ++ one ∷ silent) process ≡ Some one
last_here process before one silent is quiet =
    let here : last_of (before ++ one ∷ []) process ≡ Some one = last_push process before one ∙ rw is refl in
    ap (λ items. last_of items process) (sym (append_assoc before (one ∷ []) silent)) ∙ last_silent process (before ++ one ∷ []) silent quiet ∙ here

stage_turn : (unanswered : Option Invocation) (event : AnEvent) (stage : Stage) → is_some (event_fault unanswered event stage) ≡ false → invokes stage ≡ is_none unanswered
stage_turn None event stages.Invoke fine = refl
stage_turn (Some said) event stages.Invoke fine = cc
stage_turn None event stages.Ok fine = cc
stage_turn (Some said) event stages.Ok fine = refl
stage_turn None event stages.Fail fine = cc
stage_turn (Some said) event stages.Fail fine = refl
stage_turn None event stages.Info fine = cc
stage_turn (Some said) event stages.Info fine = refl

-- an accepted event is an invocation just where its process has no unanswered one
turn : (process : ℤ) (front : List Placed) (item : Item) → IsTrue (is_event_of process item) → is_some (fault_of front item) ≡ false → is_invocation item ≡ is_none (unanswered_of front process)
turn process front (Event event) is fine =
    let same : process ≡ event.process = (Decides-int_eq process event.process).0 is in
    subst (λ one. invokes event.answer ≡ is_none (unanswered_of front one)) (sym same) (stage_turn (unanswered_of front event.process) event event.answer fine)
turn process front (Amend of change) is fine = cc
turn process front (Withdraw of) is fine = cc
turn process front (Claim register kind) is fine = cc
turn process front (Ask register) is fine = cc
turn process front Skipped is fine = cc

said_by_stage : (place : ℕ) (event : AnEvent) (stage : Stage) (register : Option RegId) (moment : Option Moment) → HasWhatItNeeds stage register moment → is_none (invocation_by place event stage register) ≡ not (invokes stage)
said_by_stage place event stages.Invoke (Some register) moment whole = refl
said_by_stage place event stages.Invoke None moment whole = absurd (false≢true whole.0)
said_by_stage place event stages.Ok register moment whole = refl
said_by_stage place event stages.Fail register moment whole = refl
said_by_stage place event stages.Info register moment whole = refl

-- a whole item is an invocation just where its stage is that of one
said_by : (place : ℕ) (item : Item) → IsWhole item → is_none (invocation_of place item) ≡ not (is_invocation item)
said_by place (Event event) whole = said_by_stage place event event.answer event.register event.moment whole
said_by place (Amend of change) whole = refl
said_by place (Withdraw of) whole = refl
said_by place (Claim register kind) whole = refl
said_by place (Ask register) whole = refl
said_by place Skipped whole = refl

-- the first accepted event of a process is an invocation
pub first_invokes : (items : List Placed) (process : ℤ) (one : Placed) → IsFirstEvent (accepted items) process one → IsTrue (is_invocation one.item)
first_invokes items process one first =
    let fine = accepted_each items first.before one first.after first.parts in
    let none = last_silent process [] first.before first.silent in
    turn process first.before one.item first.is_event fine ∙ ap (λ last. is_none (option_and_then invocation last)) none

-- between two events of a process, the earlier one is unanswered, where it is an invocation
unanswered_next : (items : List Placed) (process : ℤ) (earlier later : Placed) (next : IsNext items process earlier later) → unanswered_of (next.before ++ earlier ∷ next.between) process ≡ invocation earlier
unanswered_next items process earlier later next = ap (option_and_then invocation) (last_here process next.before earlier next.between next.earlier_is next.silent)

pub alternates : (items : List Placed) (process : ℤ) (earlier later : Placed) → IsNext (accepted items) process earlier later → IsWhole earlier.item → is_invocation later.item ≡ not (is_invocation earlier.item)
alternates items process earlier later next whole =
    let parts : accepted items ≡ (next.before ++ earlier ∷ next.between) ++ later ∷ next.after = next.parts ∙ sym (append_assoc next.before (earlier ∷ next.between) (later ∷ next.after)) in
    let fine = accepted_each items (next.before ++ earlier ∷ next.between) later next.after parts in
    turn process (next.before ++ earlier ∷ next.between) later.item next.later_is fine ∙ ap is_none (unanswered_next (accepted items) process earlier later next) ∙ said_by earlier.place earlier.item whole

-- a last event of a process among some items, with those before and after it
record LastEvent (process : ℤ) (items : List Placed) : Type 0 where
  front : List Placed
  one : Placed
  silent : List Placed
  parts : items ≡ front ++ one ∷ silent
  is_event : IsTrue (is_event_of process one.item)
  quiet : IsSilent process silent

last_event : (process : ℤ) (items : List Placed) → IsSilent process items ⊎ LastEvent process items
last_event process [] = inl refl
last_event process (one ∷ items) = elim (last_event process items) [
  | inr last ↦ inr (record { front = one ∷ last.front; one = last.one; silent = last.silent; parts = ap (λ rest. one ∷ rest) last.parts; is_event = last.is_event; quiet = last.quiet })
  | inl quiet ↦ here process one items quiet (is_event_of process one.item) refl
]
  where
    here : (process : ℤ) (one : Placed) (items : List Placed) → IsSilent process items → (test : Bool) → is_event_of process one.item ≡ test → IsSilent process (one ∷ items) ⊎ LastEvent process (one ∷ items)
    here process one items quiet true is = inr (record { front = []; one = one; silent = items; parts = refl; is_event = is; quiet = quiet })
    here process one items quiet false is = inl (rw is quiet)

invoked_stage : (place : ℕ) (event : AnEvent) (stage : Stage) (register : Option RegId) → is_none (invocation_by place event stage register) ≡ false → invokes stage ≡ true
invoked_stage place event stages.Invoke register there = refl
invoked_stage place event stages.Ok register there = cc
invoked_stage place event stages.Fail register there = cc
invoked_stage place event stages.Info register there = cc

invoked_item : (place : ℕ) (item : Item) → is_none (invocation_of place item) ≡ false → is_invocation item ≡ true
invoked_item place (Event event) there = invoked_stage place event event.answer event.register there
invoked_item place (Amend of change) there = cc
invoked_item place (Withdraw of) there = cc
invoked_item place (Claim register kind) there = cc
invoked_item place (Ask register) there = cc
invoked_item place Skipped there = cc

-- an accepted answer has an invocation of its process before it, and no event of the process between
pub has_invocation : (items before after : List Placed) (process : ℤ) (answer : Placed) → accepted items ≡ before ++ answer ∷ after → IsTrue (is_event_of process answer.item) → is_invocation answer.item ≡ false → (earlier : Placed) × IsNext (accepted items) process earlier answer × IsTrue (is_invocation earlier.item)
has_invocation items before after process answer parts is answers_it =
    let fine = accepted_each items before answer after parts in
    let waits : is_none (unanswered_of before process) ≡ false = sym (turn process before answer.item is fine) ∙ answers_it in
    elim (last_event process before) [
      | inl quiet ↦
          let none : is_none (unanswered_of before process) ≡ true = ap (λ last. is_none (option_and_then invocation last)) (last_silent process [] before quiet) in
          absurd (false≢true (sym waits ∙ none))
      | inr last ↦
          let next : IsNext (accepted items) process last.one answer = record {
            before = last.front;
            between = last.silent;
            after = after;
            parts = parts ∙ ap (λ front. front ++ answer ∷ after) last.parts ∙ append_assoc last.front (last.one ∷ last.silent) (answer ∷ after);
            earlier_is = last.is_event;
            later_is = is;
            silent = last.quiet;
          } in
          let beside : unanswered_of before process ≡ invocation last.one = ap (λ front. unanswered_of front process) last.parts ∙ unanswered_next (accepted items) process last.one answer next in
          (last.one, next, invoked_item last.one.place last.one.item (ap is_none (sym beside) ∙ waits))
    ]

id_by_ok : (feeder : ℕ) (said : Invocation) (event : AnEvent) (moment : Option Moment) (fault : Option PairFault) (step : Step) → unless fault (ok_step feeder said event moment) ≡ Ok (Some step) → step_id step ≡ Some (id_of feeder said.place)
id_by_ok feeder said event moment (Some fault) step is = cc
id_by_ok feeder said event None None step is = cc
id_by_ok feeder said event (Some moment) None step is = let same : steps.Edit said.register (amendment_of feeder said event moment) ≡ step = cc in ap step_id (sym same)

id_by_stage : (feeder : ℕ) (said : Invocation) (place : ℕ) (event : AnEvent) (stage : Stage) (step : Step) → unless (event_fault (Some said) event stage) (event_step feeder (Some said) place event stage) ≡ Ok (Some step) → step_id step ≡ Some (id_of feeder said.place)
id_by_stage feeder said place event stages.Invoke step is = cc
id_by_stage feeder said place event stages.Ok step is = id_by_ok feeder said event event.moment (event_fault (Some said) event stages.Ok) step is
id_by_stage feeder said place event stages.Fail step is = let same : steps.Edit said.register (edits.Withdraw (id_of feeder said.place)) ≡ step = cc in ap step_id (sym same)
id_by_stage feeder said place event stages.Info step is = cc

-- the step of an event of a process with an unanswered invocation edits that operation
id_beside : (feeder : ℕ) (process : ℤ) (front : List Placed) (said : Invocation) (place : ℕ) (item : Item) (step : Step) → IsTrue (is_event_of process item) → unanswered_of front process ≡ Some said → step_of feeder front place item ≡ Ok (Some step) → step_id step ≡ Some (id_of feeder said.place)
id_beside feeder process front said place (Event event) step is unanswered gives =
    let same : process ≡ event.process = (Decides-int_eq process event.process).0 is in
    let beside : unanswered_of front event.process ≡ Some said = subst (λ one. unanswered_of front one ≡ Some said) same unanswered in
    id_by_stage feeder said place event event.answer step (subst (λ other. unless (event_fault other event event.answer) (event_step feeder other place event event.answer) ≡ Ok (Some step)) beside gives)
id_beside feeder process front said place (Amend of change) step is unanswered gives = cc
id_beside feeder process front said place (Withdraw of) step is unanswered gives = cc
id_beside feeder process front said place (Claim register kind) step is unanswered gives = cc
id_beside feeder process front said place (Ask register) step is unanswered gives = cc
id_beside feeder process front said place Skipped step is unanswered gives = cc

some_said : (place : ℕ) (said : Option Invocation) → ForSome said (λ one. one.place ≡ place) → is_none said ≡ false → (one : Invocation) × (said ≡ Some one) × (one.place ≡ place)
some_said place None at there = cc
some_said place (Some one) at there = (one, refl, at one refl)

pub edits_its_invocation : (feeder : ℕ) (items : List Placed) (process : ℤ) (earlier later : Placed) (next : IsNext (accepted items) process earlier later) → IsWhole earlier.item → IsTrue (is_invocation earlier.item) → (step : Step) → step_of feeder (next.before ++ earlier ∷ next.between) later.place later.item ≡ Ok (Some step) → step_id step ≡ Some (id_of feeder earlier.place)
edits_its_invocation feeder items process earlier later next whole invokes_it step gives =
    let there : is_none (invocation earlier) ≡ false = said_by earlier.place earlier.item whole ∙ ap not invokes_it in
    let said = some_said earlier.place (invocation earlier) (invocation_place earlier.place earlier.item) there in
    let unanswered : unanswered_of (next.before ++ earlier ∷ next.between) process ≡ Some said.0 = unanswered_next (accepted items) process earlier later next ∙ said.1 in
    id_beside feeder process (next.before ++ earlier ∷ next.between) said.0 later.place later.item step next.later_is unanswered gives ∙ ap (λ place. Some (id_of feeder place)) said.2
