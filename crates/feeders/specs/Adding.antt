-- What a feeder has added so far to its pass and its log.
use Rattle.std.specs.Prelude.{◌≤◌, ℕ, List, ◌++◌, length, Result}
use Rattle.std.specs.List.{AllZip}
use Rattle.edn_reader.specs.Grammar.{ElementModel}
use Rattle.edn_reader.specs.Fault.{AreElementsSoFar}
use Rattle.jepsen_form.specs.declared.gist.RefusedForm.{RefusedForm}
use Rattle.jepsen_form.specs.declared.item.Item.{Item}
use Rattle.jepsen_form.specs.Item.{IsItem}
use Rattle.shards.specs.Pass.{PassModel}
use Rattle.logs.specs.declared.log.Log.{Log}
use Rattle.feeders.specs.Progress.{HasDone}
use Rattle.feeders.specs.Setting.{Setting}
use Rattle.logs.specs.Steps.{steps_of}

-- of the elements that have ended in `bytes` at most one waits; the pass and the log have the steps of those before it,
-- in order, and of no others
pub record HasAdded (setting : Setting) (bytes next : List ℕ) (pass : PassModel) (log : Log) : Type 0 where
  pub pieces : List ElementModel
  pub waiting : List ElementModel
  pub items : List (Result Item RefusedForm)
  pub ended : AreElementsSoFar bytes next (pieces ++ waiting)
  pub one : length waiting ≤ 1
  pub read : AllZip (IsItem setting.tower setting.chosen) pieces items
  pub done : HasDone setting.plan setting.start pass log.lines.items (steps_of setting.start.feeder items)
