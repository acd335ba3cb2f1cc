-- The step of an item is on a register that it or an earlier item names.
use Rattle.std.proofs.Common.{◌≡◌, ◌<◌, ◌==◌, ℕ, ℤ, Bool, true, false, List, [], ◌∷◌, ◌++◌, reverse, find, Option, Some, None, Ok, is_some, if◌then◌else◌, All, sym, subst}
use Rattle.std.specs.Prelude.{IfSome}
use Rattle.std.specs.List.{filter_map, cons_option, fold, AllByRecursion}
use Rattle.std.specs.Option.{option_map, option_and_then}
use Rattle.std.proofs.lemmas.List.{reverse-append}
use Rattle.std.proofs.lemmas.List.Elements.{recursion_from_All}
use Rattle.intervals.specs.declared.operation.Moment.{Moment}
use Rattle.intervals.specs.declared.operation.RegId.{RegId}
use Rattle.intervals.specs.declared.edit.Edit.{Edit}
use Rattle.jepsen_form.specs.declared.item.Event.{Event as AnEvent}
use Rattle.jepsen_form.specs.declared.item.Item.{Item}
use Rattle.jepsen_form.specs.declared.item.Item.TheVariants as items
use Rattle.jepsen_form.specs.declared.item.Stage.{Stage}
use Rattle.jepsen_form.specs.declared.item.Stage.TheVariants as stages
use Rattle.jepsen_form.specs.Whole.{NamesBelow}
use Rattle.pairing.specs.declared.fault.PairFault.{PairFault}
use Rattle.pairing.specs.declared.invocation.Invocation.{Invocation}
use Rattle.pairing.specs.declared.step.Step.{Step}
use Rattle.pairing.specs.Invocation.{invocation_by, invocation_of}
use Rattle.pairing.specs.Accepted.{Placed, is_event_of, invocation, last_of, unanswered_of, register_of, fault_of, with_accepted, accepted}
use Rattle.pairing.specs.Step.{invoke_step, ok_step, event_step, edit_step, given_by, step_of, unless}
use Rattle.pairing.specs.Answering.{step_register}

-- the register that an optional invocation is on is below a number
abbrev IsOnBelow : ℕ → Option Invocation → Type 0
IsOnBelow count said = IfSome said (λ one. one.register.0 < count)

-- the register that an optional step is on is below a number
abbrev StepsBelow : ℕ → Option Step → Type 0
StepsBelow count step = IfSome step (λ step. (step_register step).0 < count)

-- the register that each of these items names is below a number
abbrev AllBelow : ℕ → List Placed → Type 0
AllBelow count = AllByRecursion (λ one. NamesBelow count one.item)

-- ---- lists

append_below : (count : ℕ) (items : List Placed) (one : Placed) → AllBelow count items → NamesBelow count one.item → AllBelow count (items ++ one ∷ [])
append_below count [] one all below = (below, tt)
append_below count (item ∷ items) one all below = (all.0, append_below count items one all.1 below)

reverse_below : (count : ℕ) (items : List Placed) → AllBelow count items → AllBelow count (reverse items)
reverse_below count [] all = tt
reverse_below count (item ∷ items) all = subst (AllBelow count) (sym (reverse-append (item ∷ []) items)) (append_below count (reverse items) item (reverse_below count items all.1) all.0)

find_below : (count : ℕ) (test : Placed → Bool) (items : List Placed) → AllBelow count items → IfSome (find test items) (λ one. NamesBelow count one.item)
find_below count test [] all = tt
find_below count test (item ∷ items) all = elim (test item) as (λ t. IfSome (if t then Some item else find test items) (λ one. NamesBelow count one.item)) [ true ↦ all.0 | false ↦ find_below count test items all.1 ]

-- ---- accepted items

with_below : (count : ℕ) (taken : List Placed) (one : Placed) → AllBelow count taken → NamesBelow count one.item → AllBelow count (with_accepted taken one)
with_below count taken one all below = elim (is_some (fault_of taken one.item)) as (λ t. AllBelow count (if t then taken else taken ++ one ∷ [])) [ true ↦ all | false ↦ append_below count taken one all below ]

fold_below : (count : ℕ) (taken items : List Placed) → AllBelow count taken → AllBelow count items → AllBelow count (fold with_accepted taken items)
fold_below count taken [] so_far all = so_far
fold_below count taken (one ∷ items) so_far all = fold_below count (with_accepted taken one) items (with_below count taken one so_far all.0) all.1

accepted_below : (count : ℕ) (items : List Placed) → AllBelow count items → AllBelow count (accepted items)
accepted_below count items all = fold_below count [] items tt all

-- ---- invocations

event_below : (count place : ℕ) (event : AnEvent) (stage : Stage) (register : Option RegId) → IfSome register (λ register. register.0 < count) → IsOnBelow count (invocation_by place event stage register)
event_below count place event stages.Invoke (Some register) below = below
event_below count place event stages.Invoke None below = tt
event_below count place event stages.Ok register below = tt
event_below count place event stages.Fail register below = tt
event_below count place event stages.Info register below = tt

invocation_below : (count place : ℕ) (item : Item) → NamesBelow count item → IsOnBelow count (invocation_of place item)
invocation_below count place (items.Event event) below = event_below count place event event.answer event.register below
invocation_below count place (items.Amend of change) below = tt
invocation_below count place (items.Withdraw of) below = tt
invocation_below count place (items.Claim register kind) below = tt
invocation_below count place (items.Ask register) below = tt
invocation_below count place items.Skipped below = tt

last_below : (count : ℕ) (last : Option Placed) → IfSome last (λ one. NamesBelow count one.item) → IsOnBelow count (option_and_then invocation last)
last_below count None below = tt
last_below count (Some one) below = invocation_below count one.place one.item below

unanswered_below : (count : ℕ) (taken : List Placed) (process : ℤ) → AllBelow count taken → IsOnBelow count (unanswered_of taken process)
unanswered_below count taken process all = last_below count (last_of taken process) (find_below count (λ one. is_event_of process one.item) (reverse taken) (reverse_below count taken all))

-- the register of the first of some invocations at a place
abbrev found_at : List Invocation → ℕ → Option RegId
found_at said place = option_map (λ one. one.register) (find (λ one. one.place == place) said)

found_below : (count : ℕ) (said : Option Invocation) (others : List Invocation) (place : ℕ) → IsOnBelow count said → IfSome (found_at others place) (λ register. register.0 < count) → IfSome (found_at (cons_option said others) place) (λ register. register.0 < count)
found_below count None others place below rest = rest
found_below count (Some said) others place below rest = elim (said.place == place) as (λ t. IfSome (option_map (λ one. one.register) (if t then Some said else find (λ one. one.place == place) others)) (λ register. register.0 < count)) [ true ↦ below | false ↦ rest ]

register_below : (count : ℕ) (taken : List Placed) (place : ℕ) → AllBelow count taken → IfSome (register_of taken place) (λ register. register.0 < count)
register_below count [] place all = tt
register_below count (one ∷ taken) place all = found_below count (invocation one) (filter_map invocation taken) place (invocation_below count one.place one.item all.0) (register_below count taken place all.1)

-- ---- steps

invoke_below : (count feeder place : ℕ) (event : AnEvent) (register : Option RegId) (moment : Option Moment) → IfSome register (λ register. register.0 < count) → StepsBelow count (invoke_step feeder place event register moment)
invoke_below count feeder place event (Some register) (Some moment) below = below
invoke_below count feeder place event (Some register) None below = tt
invoke_below count feeder place event None moment below = tt

ok_below : (count feeder : ℕ) (said : Invocation) (event : AnEvent) (moment : Option Moment) → said.register.0 < count → StepsBelow count (ok_step feeder said event moment)
ok_below count feeder said event (Some moment) below = below
ok_below count feeder said event None below = tt

answer_below : (count feeder place : ℕ) (unanswered : Option Invocation) (event : AnEvent) (stage : Stage) → IsOnBelow count unanswered → IfSome event.register (λ register. register.0 < count) → StepsBelow count (event_step feeder unanswered place event stage)
answer_below count feeder place unanswered event stages.Invoke waits named = invoke_below count feeder place event event.register event.moment named
answer_below count feeder place None event stages.Ok waits named = tt
answer_below count feeder place (Some said) event stages.Ok waits named = ok_below count feeder said event event.moment waits
answer_below count feeder place None event stages.Fail waits named = tt
answer_below count feeder place (Some said) event stages.Fail waits named = waits
answer_below count feeder place unanswered event stages.Info waits named = tt

edit_below : (count : ℕ) (register : Option RegId) (edit : Edit) → IfSome register (λ register. register.0 < count) → StepsBelow count (edit_step register edit)
edit_below count None edit below = tt
edit_below count (Some register) edit below = below

given_below : (count feeder : ℕ) (taken : List Placed) (place : ℕ) (item : Item) → AllBelow count taken → NamesBelow count item → StepsBelow count (given_by feeder taken place item)
given_below count feeder taken place (items.Event event) all below = answer_below count feeder place (unanswered_of taken event.process) event event.answer (unanswered_below count taken event.process all) below
given_below count feeder taken place (items.Amend of change) all below = edit_below count (register_of taken of) _ (register_below count taken of all)
given_below count feeder taken place (items.Withdraw of) all below = edit_below count (register_of taken of) _ (register_below count taken of all)
given_below count feeder taken place (items.Claim register kind) all below = below
given_below count feeder taken place (items.Ask register) all below = below
given_below count feeder taken place items.Skipped all below = tt

step_below : (count : ℕ) (fault : Option PairFault) (given : Option Step) (step : Step) → StepsBelow count given → unless fault given ≡ Ok (Some step) → (step_register step).0 < count
step_below count (Some fault) given step below is = cc
step_below count None None step below is = cc
step_below count None (Some given) step below is = let same : given ≡ step = cc in subst (λ (step : Step). (step_register step).0 < count) same below

-- the step of an item is on a register that it or an earlier item names
pub on_named_register : (count feeder place : ℕ) (items : List Placed) (item : Item) (step : Step) → All (λ one. NamesBelow count one.item) items → NamesBelow count item → step_of feeder (accepted items) place item ≡ Ok (Some step) → (step_register step).0 < count
on_named_register count feeder place items item step all below is =
    let taken = accepted_below count items (recursion_from_All (λ (one : Placed). NamesBelow count one.item) items all) in
    step_below count (fault_of (accepted items) item) (given_by feeder (accepted items) place item) step (given_below count feeder (accepted items) place item taken below) is
