-- How far a feeder has come, and what it leaves. Only private clauses speak of it.
use Rattle.std.specs.Prelude.{◌≡◌, ◌<◌, ◌≤◌, ℕ, List, [], ◌∷◌, ◌++◌, length, map, Option, Some, None, Result, Ok, Err}
use Rattle.std.specs.Borrow.{Bor}
use Rattle.std.specs.Option.{ForSome}
use Rattle.tower_file.specs.Contents.{TowerModel}
use Rattle.jepsen_form.specs.declared.gist.RefusedForm.{RefusedForm}
use Rattle.jepsen_form.specs.declared.item.Item.{Item}
use Rattle.jepsen_form.specs.declared.item.MomentField.{MomentField}
use Rattle.pairing.specs.declared.step.Step.TheVariants as steps
use Rattle.pairing.specs.Known.{KnowsItems}
use Rattle.shards.specs.Plan.{Plan}
use Rattle.shards.specs.Pass.{IsPassOf, PassModel, new_pass, own_entries}
use Rattle.feeders.specs.declared.fault.RunFault.{RunFault}
use Rattle.feeders.specs.declared.outcome.FeederOutcome.{FeederOutcome}
use Rattle.logs.specs.declared.log.Line.{Line}
use Rattle.logs.specs.declared.log.Log.{Log}
use Rattle.feeders.specs.declared.progress.Progress.{Progress}
use Rattle.feeders.specs.Readers.{IsReadOf}
use Rattle.feeders.specs.Setting.{Setting, setting_of}
use Rattle.logs.specs.Start.{Start, first_start}
use Rattle.logs.specs.Steps.{AreItemsOfTrace, StepResult, placed, step_after, steps_of}
use Rattle.logs.specs.Doings.{Doing, AreDone, own_after}

-- the feeder has done these steps: its pass has the entries that it began with and then those of its doings, and its
-- log has their lines
pub record HasDone (plan : Plan) (start : Start) (pass : PassModel) (lines : List Line) (steps : List StepResult) : Type 0 where
  pub doings : List Doing
  pub done : AreDone plan start steps lines doings
  pub feeder_is : pass.feeder ≡ start.feeder
  pub of_plan : IsPassOf plan pass
  pub own : (at : ℕ) → at < plan.shards → own_entries pass at ≡ own_after plan.shards start at doings

-- one step more was done, that of the element at `place`, whatever the steps so far are
abbrev pub GoesOn : Plan → PassModel → Log → PassModel → Log → ℕ → StepResult → Type 0
GoesOn plan pass log pass' log' place step = (start : Start) (steps : List StepResult) → place ≡ length steps
    → HasDone plan start pass log.lines.items steps → HasDone plan start pass' log'.lines.items (steps ++ step ∷ [])

-- both logs have the same lines, and broke at the same place or not at all
pub record HasSameLines (old new : Log) : Type 0 where
  pub lines : new.lines.items ≡ old.lines.items
  pub broken : new.broken ≡ old.broken

-- each place that the pairing took is before that of the next element
abbrev pub IsAhead : Progress → Type 0
IsAhead progress = ForSome progress.pairing.last (λ last. last < progress.place)

-- no place that the pairing took is after that of the next element, which may be paired by now
abbrev pub PairedUpTo : Progress → Type 0
PairedUpTo progress = ForSome progress.pairing.last (λ last. last ≤ progress.place)

-- the progress and the pass are as after these elements, each of which is carried out
pub record IsAt (plan : Plan) (start : Start) (items : List (Result Item RefusedForm)) (progress : Progress) (pass : PassModel) : Type 0 where
  pub place : progress.place ≡ length items
  pub feeder_is : progress.pairing.feeder ≡ start.feeder
  pub pairing : KnowsItems progress.pairing (placed items)
  pub done : HasDone plan start pass progress.log.lines.items (steps_of start.feeder items)

-- the progress and the pass are as after the elements of `items`, and `item` after them is paired: `step` is its step,
-- not carried out yet
pub record IsPaired (plan : Plan) (start : Start) (items : List (Result Item RefusedForm)) (item : Result Item RefusedForm) (step : StepResult) (progress : Progress) (pass : PassModel) : Type 0 where
  pub place : progress.place ≡ length items
  pub feeder_is : progress.pairing.feeder ≡ start.feeder
  pub pairing : KnowsItems progress.pairing (placed (items ++ item ∷ []))
  pub step_is : step ≡ step_after start.feeder items item
  pub done : HasDone plan start pass progress.log.lines.items (steps_of start.feeder items)

-- a feeder has gone through its trace, up to the end or to where it broke: its pass and its log have the trace's steps
pub record IsFed (setting : Setting) (trace : List ℕ) (fed : FeederOutcome) : Type 0 where
  pub items : List (Result Item RefusedForm)
  pub are : AreItemsOfTrace setting.tower setting.chosen trace fed.log.broken items
  pub done : HasDone setting.plan setting.start fed.pass fed.log.lines.items (steps_of setting.start.feeder items)

-- a feeder has gone through what was read of a reader that had these bytes left (`IsReadOf`), and left this outcome
pub record IsReadAndFed (setting : Setting) (left : Option (List ℕ)) (fed : FeederOutcome) : Type 0 where
  pub trace : List ℕ
  pub of : IsReadOf left fed.log.broken trace
  pub is_fed : IsFed setting trace fed

-- of three lists of one length: the relation holds of each pass's feeder, what it was given and what it left
abbrev pub AreFedBy : {X : Type 0} → (ℕ → X → FeederOutcome → Type 0) → List PassModel → List X → List FeederOutcome → Type 0
AreFedBy IsFedOf [] [] [] = Unit {0}
AreFedBy IsFedOf (pass ∷ passes) (x ∷ xs) (fed ∷ outcomes) = IsFedOf pass.feeder x fed × AreFedBy IsFedOf passes xs outcomes
AreFedBy IsFedOf passes xs outcomes = ⊥

-- each of these passes began with no entry, and its feeder has gone through its trace and left this outcome
abbrev pub AreFed : Plan → TowerModel → MomentField → List PassModel → List (Bor (List ℕ)) → List FeederOutcome → Type 0
AreFed plan tower chosen passes traces outcomes = AreFedBy (λ feeder trace fed. IsFed (setting_of plan tower chosen (first_start feeder)) trace.now fed) passes traces outcomes

-- each of these passes began with no entry, and its feeder has gone through what was read of its reader and left this
-- outcome
abbrev pub AreReadAndFed : Plan → TowerModel → MomentField → List PassModel → List (Option (List ℕ)) → List FeederOutcome → Type 0
AreReadAndFed plan tower chosen passes lefts outcomes = AreFedBy (λ feeder. IsReadAndFed (setting_of plan tower chosen (first_start feeder))) passes lefts outcomes

-- nothing was done with this pass, which is of one of the plan's feeders
abbrev pub IsFresh : Plan → PassModel → Type 0
IsFresh plan pass = (pass ≡ new_pass plan pass.feeder) × (pass.feeder < plan.feeders)

-- nothing was done with any of these passes, each of one of the plan's feeders
abbrev pub AreFresh : Plan → List PassModel → Type 0
AreFresh plan [] = Unit {0}
AreFresh plan (pass ∷ passes) = IsFresh plan pass × AreFresh plan passes

-- of what feeders ended with, in order, this is the first fault: those before left an outcome
abbrev pub IsFirstFault : List (Result FeederOutcome RunFault) → RunFault → Type 0
IsFirstFault ended fault = (before : List FeederOutcome) × (rest : List (Result FeederOutcome RunFault)) × (ended ≡ map Ok before ++ Err fault ∷ rest)

-- the register of the step, where there is a step, is one of the plan's
abbrev pub IsKnownStep : Plan → StepResult → Type 0
IsKnownStep plan (Err code) = Unit {0}
IsKnownStep plan (Ok None) = Unit {0}
IsKnownStep plan (Ok (Some (steps.Edit register edit))) = register.0 < length plan.claims
IsKnownStep plan (Ok (Some (steps.Ask register))) = register.0 < length plan.claims
