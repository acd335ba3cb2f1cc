-- How far a feeder has come with a trace that comes in chunks.
use Rattle.std.specs.Prelude.{ℕ, List, []}
use Rattle.tower_file.specs.Contents.{TowerModel}
use Rattle.jepsen_form.specs.declared.item.MomentField.{MomentField}
use Rattle.shards.specs.Plan.{Plan}
use Rattle.shards.specs.Pass.{PassModel}
use Rattle.feeders.specs.declared.feeder.FeedState.{FeedState}
use Rattle.feeders.specs.declared.feeder.FeedState.TheVariants.{Open, Paused, Ending, Broke, Ended}
use Rattle.feeders.specs.declared.intake.Intake.{Intake}
use Rattle.feeders.specs.Intake.{HasBroken, HasFed, IsAtEnd}
use Rattle.feeders.specs.Setting.{Setting, setting_of}
use Rattle.logs.specs.Start.{Start}

-- what a feeder is seen as: its moment field, its tower, what it has taken of its trace, and whether it goes on
pub record FeederModel : Type 0 where
  pub chosen : MomentField
  pub tower : TowerModel
  pub intake : Intake
  pub state : FeedState

-- by its state, what a feeder has done with the bytes that it took: they are fed (open: whatever comes next; paused:
-- before `next`), their end was taken (ending), or the trace broke in them (broke); false where the trace was ended
abbrev pub IsFedAs : FeedState → Setting → List ℕ → List ℕ → Intake → PassModel → Type 0
IsFedAs Open setting bytes next intake pass = HasFed setting bytes [] intake pass
IsFedAs Paused setting bytes next intake pass = HasFed setting bytes next intake pass
IsFedAs Ending setting bytes next intake pass = IsAtEnd setting bytes intake pass
IsFedAs Broke setting bytes next intake pass = HasBroken setting bytes intake pass
IsFedAs Ended setting bytes next intake pass = ⊥

-- from this start on a feeder has taken `bytes` of its trace, and `next` comes next: the elements that have ended in
-- them are fed, but for one at most that waits, or the trace broke in them
abbrev pub IsFedUpTo : Plan → Start → List ℕ → List ℕ → FeederModel → PassModel → Type 0
IsFedUpTo plan start bytes next feeding pass = IsFedAs feeding.state (setting_of plan feeding.tower feeding.chosen start) bytes next feeding.intake pass
