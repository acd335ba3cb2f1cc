-- What a run over several traces leaves.
use Rattle.std.specs.Prelude.{◌≡◌, ◌<◌, ◌+◌, ℕ, List, [], ◌∷◌, map, length, Result}
use Rattle.tower_file.specs.Contents.{TowerModel}
use Rattle.jepsen_form.specs.declared.gist.RefusedForm.{RefusedForm}
use Rattle.jepsen_form.specs.declared.item.Item.{Item}
use Rattle.jepsen_form.specs.declared.item.MomentField.{MomentField}
use Rattle.shards.specs.Plan.{Plan, plan_of}
use Rattle.shards.specs.Plain.{plain_numbered}
use Rattle.shards.specs.Pass.{PassModel}
use Rattle.shards.specs.Merge.{entries_of}
use Rattle.shards.specs.Closing.{ClosedShard, IsClosed, journal_of}
use Rattle.logs.specs.declared.log.Log.{Log}
use Rattle.logs.specs.Start.{first_start}
use Rattle.logs.specs.Steps.{AreItemsOfTrace, steps_of}
use Rattle.logs.specs.Doings.{Doing, AreDone, entered_in}

-- the relation holds of each number and pair of two lists of one length; the number of the first pair is given
abbrev pub EachNumbered : {X Y : Type 0} → (ℕ → X → Y → Type 0) → ℕ → List X → List Y → Type 0
EachNumbered R number [] [] = Unit {0}
EachNumbered R number [] (y ∷ ys) = ⊥
EachNumbered R number (x ∷ xs) [] = ⊥
EachNumbered R number (x ∷ xs) (y ∷ ys) = R number x y × EachNumbered R (number + 1) xs ys

-- `log` is that of a feeder's trace: it notes what was done for each element's step, by place, and where the trace
-- broke; in each shard's journal the feeder's entries read as those of the edits that were done there, in order
pub record IsTraced (plan : Plan) (tower : TowerModel) (chosen : MomentField) (closed : List ClosedShard) (feeder : ℕ) (trace : List ℕ) (log : Log) : Type 0 where
  pub items : List (Result Item RefusedForm)
  pub are : AreItemsOfTrace tower chosen trace log.broken items
  pub doings : List Doing
  pub done : AreDone plan (first_start feeder) (steps_of feeder items) log.lines.items doings
  pub entries : (at : ℕ) → at < plan.shards
      → map plain_numbered (entries_of feeder (journal_of closed at)) ≡ map plain_numbered (entered_in plan.shards feeder at doings)

-- the plan of a run: of auditor 0, over the tower, in so many shards, with a feeder for each trace
abbrev pub plan_of_run : TowerModel → ℕ → List (List ℕ) → Plan
plan_of_run tower shards traces = plan_of 0 tower shards (length traces)

-- what a run over these traces leaves: the journals and books of an auditor of the tower that was finished with one
-- pass for each trace, and for each trace its log (`IsTraced`)
pub record IsRun (tower : TowerModel) (chosen : MomentField) (shards : ℕ) (traces : List (List ℕ)) (closed : List ClosedShard) (logs : List Log) : Type 0 where
  pub passes : List PassModel
  pub finished : IsClosed (plan_of_run tower shards traces) passes closed
  pub traced : EachNumbered (IsTraced (plan_of_run tower shards traces) tower chosen closed) 0 traces logs
