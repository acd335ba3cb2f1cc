-- What a feeder works with during a run.
use Rattle.std.specs.Prelude.{◌≡◌, ◌<◌, ℕ}
use Rattle.tower_file.specs.Contents.{TowerModel}
use Rattle.jepsen_form.specs.declared.item.MomentField.{MomentField}
use Rattle.shards.specs.Plan.{Plan}
use Rattle.shards.specs.Pass.{IsPassOf, PassModel, own_entries}
use Rattle.logs.specs.Start.{Start}

-- the pass is one of the plan's, of the start's feeder, and its own entries in each shard are those of the start
pub record IsAtStart (plan : Plan) (start : Start) (pass : PassModel) : Type 0 where
  pub of_plan : IsPassOf plan pass
  pub feeder_is : pass.feeder ≡ start.feeder
  pub had : (at : ℕ) → at < plan.shards → own_entries pass at ≡ start.had at

-- a feeder's work: for which plan, by which tower and moment field its elements are read, and how it begins
pub record Setting : Type 0 where
  pub plan : Plan
  pub tower : TowerModel
  pub chosen : MomentField
  pub start : Start

-- the setting of this plan, tower, moment field and start
abbrev pub setting_of : Plan → TowerModel → MomentField → Start → Setting
setting_of plan tower chosen start = record { plan = plan; tower = tower; chosen = chosen; start = start }
