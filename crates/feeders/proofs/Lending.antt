-- An item that brings no text has a step that lends none.
use Rattle.std.proofs.Common.{◌≡◌, ℕ, List, length, Option, Some, None, Result, Ok, Err, sym, subst}
use Rattle.std.specs.Prelude.{is_some, false}
use Rattle.intervals.specs.declared.edit.Edit.TheVariants as edits
use Rattle.intervals.specs.declared.operation.OpId.{OpId}
use Rattle.intervals.specs.declared.operation.RegId.{RegId}
use Rattle.jepsen_form.specs.declared.gist.RefusedForm.{RefusedForm}
use Rattle.jepsen_form.specs.declared.item.Event.{Event as AnEvent}
use Rattle.jepsen_form.specs.declared.item.Item.{Item}
use Rattle.jepsen_form.specs.declared.item.Item.TheVariants as items
use Rattle.jepsen_form.specs.declared.item.Stage.{Stage}
use Rattle.jepsen_form.specs.declared.item.Stage.TheVariants as stages
use Rattle.pairing.specs.declared.about.About.{About}
use Rattle.pairing.specs.declared.fault.PairFault.{PairFault}
use Rattle.pairing.specs.declared.invocation.Invocation.{Invocation}
use Rattle.pairing.specs.declared.step.Step.{Step}
use Rattle.pairing.specs.About.{gist_of_item}
use Rattle.pairing.specs.Accepted.{Placed, accepted, unanswered_of, register_of, fault_of}
use Rattle.pairing.specs.Step.{step_of, event_step, edit_step, id_of, given_by, unless}
use Rattle.shards.specs.Plan.{Plan}
use Rattle.shards.specs.Pass.{PassModel}
use Rattle.feeders.specs.declared.progress.Progress.{Progress}
use Rattle.logs.specs.Start.{Start}
use Rattle.logs.specs.Steps.{about_after, StepResult, by_pairing, placed, step_after}
use Rattle.feeders.specs.Texts.{brought, brought_at}
use Rattle.feeders.specs.Progress.{IsAt, IsPaired}
use Rattle.feeders.specs.Lending.{LendsNone, is_lent}

event_lends : (feeder : ℕ) (unanswered : Option Invocation) (place : ℕ) (event : AnEvent) (stage : Stage) → is_some (brought_at stage) ≡ false → LendsNone (Ok (event_step feeder unanswered place event stage))
event_lends feeder unanswered place event stages.Invoke none = absurd cc
event_lends feeder unanswered place event stages.Ok none = absurd cc
event_lends feeder None place event stages.Fail none = tt
event_lends feeder (Some unanswered) place event stages.Fail none = tt
event_lends feeder unanswered place event stages.Info none = tt

withdraw_lends : (register : Option RegId) (id : OpId) → LendsNone (Ok (edit_step register (edits.Withdraw id)))
withdraw_lends None id = tt
withdraw_lends (Some register) id = tt

given_lends : (feeder : ℕ) (before : List Placed) (place : ℕ) (item : Item) → is_some (brought item) ≡ false → LendsNone (Ok (given_by feeder before place item))
given_lends feeder before place (items.Event event) none = event_lends feeder (unanswered_of before event.process) place event event.answer none
given_lends feeder before place (items.Amend of change) none = absurd cc
given_lends feeder before place (items.Withdraw of) none = withdraw_lends (register_of before of) (id_of feeder of)
given_lends feeder before place (items.Claim register kind) none = tt
given_lends feeder before place (items.Ask register) none = tt
given_lends feeder before place items.Skipped none = tt

unless_lends : (about : About) (fault : Option PairFault) (step : Option Step) → LendsNone (Ok step) → LendsNone (by_pairing about (unless fault step))
unless_lends about None step lends = lends
unless_lends about (Some fault) step lends = tt

-- the step of an item that brings no text lends none
step_lends : (about : About) (feeder : ℕ) (before : List Placed) (place : ℕ) (item : Item) → is_some (brought item) ≡ false → LendsNone (by_pairing about (step_of feeder before place item))
step_lends about feeder before place item none = unless_lends about (fault_of before item) (given_by feeder before place item) (given_lends feeder before place item none)

-- nor does the step of such an item after other elements
pub after_lends : (feeder : ℕ) (items : List (Result Item RefusedForm)) (item : Result Item RefusedForm) → is_lent item ≡ false → LendsNone (step_after feeder items item)
after_lends feeder items (Err fault) none = tt
after_lends feeder items (Ok item) none = step_lends (about_after feeder items (gist_of_item item)) feeder (accepted (placed items)) (length items) item none

-- an element whose step lends no text was paired, and its step with any lifetime is its step
pub read_unlent : (plan : Plan) (old new : Progress) (item : Result Item RefusedForm) (step told : StepResult)
    → is_lent item ≡ false → (LendsNone step → told ≡ step)
    → ((plan : Plan) (start : Start) (items : List (Result Item RefusedForm)) (pass : PassModel) → IsAt plan start items old pass → IsPaired plan start items item step new pass)
    → (start : Start) (items : List (Result Item RefusedForm)) (pass : PassModel) → IsAt plan start items old pass → IsPaired plan start items item told new pass
read_unlent plan old new item step told none unlent paired start items pass at =
    let is = paired plan start items pass at in
    let lends : LendsNone step = subst LendsNone (sym is.step_is) (after_lends start.feeder items item none) in
    subst (λ (s : StepResult). IsPaired plan start items item s new pass) (sym (unlent lends)) is
