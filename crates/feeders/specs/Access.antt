-- What a feeder's access is seen as, and what it does where several feeders take turns on one thread.
use Rattle.std.specs.Prelude.{◌≡◌, ◌≢◌, ℕ, List, Option, Some, None}
use Rattle.shards.specs.declared.entry.Entry.{Entry}
use Rattle.shards.specs.Alone.{AreJournals, pass_alone}
use Rattle.shards.specs.Pass.{PassModel, own_entries}
use Rattle.shards.specs.Plan.{Plan}
use Rattle.feeders.specs.declared.access.By.{By}
use Rattle.feeders.specs.declared.access.By.TheVariants.{InTurn, WithPass}

-- what an access is seen as: the feeder's pass, and the journals of all shards where its thread has them for itself
pub record AccessModel : Type 0 where
  pub pass : PassModel
  pub journals : Option (List (List Entry))

-- the turn of a feeder, on a thread that has these journals for itself
pub record TurnModel : Type 0 where
  pub feeder : ℕ
  pub journals : List (List Entry)

-- the access of a feeder whose thread has these journals for itself: its pass is the one that it would have of an auditor
abbrev pub access_alone : Plan → ℕ → List (List Entry) → AccessModel
access_alone plan feeder journals = record { pass = pass_alone plan feeder journals; journals = Some journals }

-- the access by a pass of an auditor, or in a turn
abbrev pub access_by : Plan → By PassModel TurnModel → AccessModel
access_by plan (WithPass pass) = record { pass = pass; journals = None }
access_by plan (InTurn turn) = access_alone plan turn.feeder turn.journals

-- the access is still in this feeder's turn, with journals of the plan, in which each other feeder has the entries that it
-- had in the journals before
pub record IsStillInTurn (plan : Plan) (feeder : ℕ) (before : List (List Entry)) (access : AccessModel) : Type 0 where
  pub after : List (List Entry)
  pub is : access ≡ access_alone plan feeder after
  pub are : AreJournals plan after
  pub others : (other : ℕ) → other ≢ feeder → (at : ℕ) → own_entries (pass_alone plan other after) at ≡ own_entries (pass_alone plan other before) at

-- where feeders take turns, what is done in the turn of one changes no entry of another
abbrev pub KeepsOthers : Plan → AccessModel → AccessModel → Type 0
KeepsOthers plan old new = (feeder : ℕ) (before : List (List Entry)) → AreJournals plan before → old ≡ access_alone plan feeder before → IsStillInTurn plan feeder before new
