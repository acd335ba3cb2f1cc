-- What a feeder has added so far, by how far its last element has come.
use Rattle.std.proofs.Common.{◌≤◌, ℕ, List, ◌++◌, length, Result, ap, arith}
use Rattle.edn_reader.specs.Grammar.{ElementModel}
use Rattle.edn_reader.specs.Fault.{AreElementsSoFar}
use Rattle.edn_reader.specs.Splitting.{SplitterModel, StandsAfter}
use Rattle.jepsen_form.specs.declared.gist.RefusedForm.{RefusedForm}
use Rattle.jepsen_form.specs.declared.item.Item.{Item}
use Rattle.shards.specs.Pass.{PassModel}
use Rattle.feeders.specs.declared.intake.Intake.{Intake}
use Rattle.feeders.specs.declared.pending.Pending.{Pending}
use Rattle.feeders.specs.declared.pending.Pending.TheVariants.{Nothing, Whole, Lent, Paired}
use Rattle.feeders.specs.Adding.{HasAdded}
use Rattle.feeders.specs.Intake.{HasFed}
use Rattle.feeders.specs.Pending.{IsPendingAs}
use Rattle.feeders.specs.Progress.{HasDone}
use Rattle.feeders.specs.Setting.{Setting}
use Rattle.logs.specs.Steps.{steps_of}

abbrev Before : Setting → List (Result Item RefusedForm) → List ElementModel → Intake → PassModel → Type 0
Before setting items waiting intake pass = (length waiting ≤ 1) × HasDone setting.plan setting.start pass intake.progress.log.lines.items (steps_of setting.start.feeder items)

before : (pending : Pending) (setting : Setting) (items : List (Result Item RefusedForm)) (waiting : List ElementModel) (intake : Intake) (pass : PassModel) → IsPendingAs pending setting items waiting intake pass
    → Before setting items waiting intake pass
before Nothing setting items waiting intake pass is = (omega (arith, ap length is.0), is.1.done)
before (Whole start) setting items waiting intake pass is = (omega (arith, ap length is.1), is.3.done)
before (Lent item) setting items waiting intake pass is = (omega (arith, ap length is.1), is.3.done)
before (Paired step) setting items waiting intake pass is = (omega (arith, ap length is.1), is.2.2.done)

pub added : (setting : Setting) (bytes next : List ℕ) (intake : Intake) (pass : PassModel)
    → ((bytes next : List ℕ) (pieces : List ElementModel) (splitting : SplitterModel) → StandsAfter bytes next pieces splitting → AreElementsSoFar bytes next pieces)
    → HasFed setting bytes next intake pass → HasAdded setting bytes next pass intake.progress.log
added setting bytes next intake pass so_far fed =
    let is = before intake.pending setting fed.items fed.waiting intake pass fed.pending in
    record {
      pieces = fed.pieces;
      waiting = fed.waiting;
      items = fed.items;
      ended = so_far bytes next (fed.pieces ++ fed.waiting) intake.splitter fed.taken.present;
      one = is.0;
      read = fed.read;
      done = is.1;
    }
