-- A feeder goes on with a pass that has the entries that it had.
use Rattle.std.proofs.Common.{◌≡◌, ℕ, List, Result, ◌∙◌}
use Rattle.tower_file.specs.Contents.{TowerModel}
use Rattle.jepsen_form.specs.declared.gist.RefusedForm.{RefusedForm}
use Rattle.jepsen_form.specs.declared.item.Item.{Item}
use Rattle.jepsen_form.specs.declared.item.MomentField.{MomentField}
use Rattle.edn_reader.specs.Grammar.{ElementModel}
use Rattle.shards.specs.Plan.{Plan}
use Rattle.shards.specs.Pass.{IsPassOf, PassModel, own_entries}
use Rattle.feeders.specs.declared.feeder.FeedState.{FeedState}
use Rattle.feeders.specs.declared.feeder.FeedState.TheVariants.{Open, Paused, Ending, Broke, Ended}
use Rattle.feeders.specs.declared.intake.Intake.{Intake}
use Rattle.logs.specs.declared.log.Line.{Line}
use Rattle.feeders.specs.declared.pending.Pending.{Pending}
use Rattle.feeders.specs.declared.pending.Pending.TheVariants.{Nothing, Whole, Lent, Paired}
use Rattle.feeders.specs.declared.progress.Progress.{Progress}
use Rattle.feeders.specs.Feeding.{IsFedAs}
use Rattle.feeders.specs.Intake.{HasEnded, HasFed, IsAtEnd}
use Rattle.feeders.specs.Pending.{IsPendingAs}
use Rattle.feeders.specs.Progress.{HasDone, IsAt, IsPaired}
use Rattle.feeders.specs.Setting.{Setting, setting_of}
use Rattle.logs.specs.Start.{Start}
use Rattle.logs.specs.Steps.{StepResult}

module _ (plan : Plan) (start : Start) (tower : TowerModel) (chosen : MomentField) (old new : PassModel) (feeder : new.feeder ≡ old.feeder) (of : IsPassOf plan old → IsPassOf plan new)
    (same : (at : ℕ) → own_entries new at ≡ own_entries old at) where
  abbrev setting : Setting
  setting = setting_of plan tower chosen start

  done : {lines : List Line} {steps : List StepResult} → HasDone plan start old lines steps → HasDone plan start new lines steps
  done has = record { doings = has.doings; done = has.done; feeder_is = feeder ∙ has.feeder_is; of_plan = of has.of_plan; own = λ at lt. same at ∙ has.own at lt }

  following : {items : List (Result Item RefusedForm)} {progress : Progress} → IsAt plan start items progress old → IsAt plan start items progress new
  following is = record { place = is.place; feeder_is = is.feeder_is; pairing = is.pairing; done = done is.done }

  paired : {items : List (Result Item RefusedForm)} {item : Result Item RefusedForm} {step : StepResult} {progress : Progress} → IsPaired plan start items item step progress old
      → IsPaired plan start items item step progress new
  paired is = record { place = is.place; feeder_is = is.feeder_is; pairing = is.pairing; step_is = is.step_is; done = done is.done }

  waits : (pending : Pending) (items : List (Result Item RefusedForm)) (waiting : List ElementModel) (intake : Intake) → IsPendingAs pending setting items waiting intake old
      → IsPendingAs pending setting items waiting intake new
  waits Nothing items waiting intake is = (is.0, following is.1)
  waits (Whole place) items waiting intake is = (is.0, is.1, is.2, following is.3)
  waits (Lent item) items waiting intake is = (is.0, is.1, is.2, following is.3)
  waits (Paired step) items waiting intake is = (is.0, is.1, (is.2.0, is.2.1, paired is.2.2))

  fed : {bytes next : List ℕ} (intake : Intake) → HasFed setting bytes next intake old → HasFed setting bytes next intake new
  fed intake has = record {
    pieces = has.pieces;
    waiting = has.waiting;
    items = has.items;
    taken = has.taken;
    read = has.read;
    pending = waits intake.pending has.items has.waiting intake has.pending;
    unbroken = has.unbroken;
  }

  at_end : {trace : List ℕ} (intake : Intake) → IsAtEnd setting trace intake old → IsAtEnd setting trace intake new
  at_end intake is = record {
    pieces = is.pieces;
    waiting = is.waiting;
    items = is.items;
    elements = is.elements;
    read = is.read;
    pending = waits intake.pending is.items is.waiting intake is.pending;
    by_text = is.by_text;
  }

  ended : {trace : List ℕ} (intake : Intake) → HasEnded setting trace intake old → HasEnded setting trace intake new
  ended intake has = record { items = has.items; are = has.are; done = done has.done }

  pub goes_on : (state : FeedState) (bytes coming : List ℕ) (intake : Intake) → IsFedAs state setting bytes coming intake old → IsFedAs state setting bytes coming intake new
  goes_on Open bytes coming intake is = fed intake is
  goes_on Paused bytes coming intake is = fed intake is
  goes_on Ending bytes coming intake is = at_end intake is
  goes_on Broke bytes coming intake is = λ trace more e. ended intake (is trace more e)
  goes_on Ended bytes coming intake is = is
