-- The status of a run.
use Rattle.std.specs.Prelude.{◌≡◌, ◌<◌, ◌↔◌, ◌⊎◌, Contains, IsTrue, sum, ℕ, Bool, List, if◌then◌else◌, length}
use Rattle.std.specs.List.{list_any}
use Rattle.tower_file.specs.Contents.{TowerModel}
use Rattle.shards.specs.Closing.{ClosedShard}
use Rattle.logs.specs.declared.log.Log.{Log}
use Rattle.report.specs.Counts.{standing_counts}
use Rattle.report.specs.Culprit.{Fails}
use Rattle.report.specs.Doubted.{AreAllInDoubt}
use Rattle.report.specs.Refused.{is_refused_line}
use Rattle.report.specs.Summary.{is_broken}
use Rattle.words.specs.declared.demand.Demand.{Demand}

-- the status by four tests: 2 where a trace broke, else the first number where a register fails, else 3 where an element
-- was refused, else 4 where too few operations stand, else 0
abbrev pub status_by : ℕ → Bool → Bool → Bool → Bool → ℕ
status_by failing broken fails refused few = if broken then 2 else if fails then failing else if refused then 3 else if few then 4 else 0

-- the same, with 1 where a register fails
abbrev pub status_of : Bool → Bool → Bool → Bool → ℕ
status_of broken fails refused few = status_by 1 broken fails refused few

-- the status of registers that fail: what `--doubt` says where each failure rests on elements that were left out, else 1
abbrev pub failing_status : ℕ → Bool → ℕ
failing_status doubt in_doubt = if in_doubt then doubt else 1

-- a register of the tower fails
abbrev pub HasFailing : TowerModel → List ClosedShard → Type 0
HasFailing tower closed = (number : ℕ) × (number < length tower.registers) × Fails closed number

-- an element of the trace was refused
abbrev pub has_refused : Log → Bool
has_refused log = list_any is_refused_line log.lines.items

-- fewer operations stand in all registers together than the first number, or fewer in some register than the second
abbrev pub HasTooFew : TowerModel → List ClosedShard → ℕ → ℕ → Type 0
HasTooFew tower closed least least_each =
    (sum (standing_counts tower closed) < least) ⊎ (many : ℕ) × Contains (standing_counts tower closed) many × (many < least_each)

-- the status of a run: 2 where a trace broke, else that of registers that fail, where one does, else 3 where an element
-- was refused, else 4 where too few operations stand, else 0. Whether all failures are in doubt is not looked at where
-- that makes no difference.
pub record IsStatus (tower : TowerModel) (closed : List ClosedShard) (logs : List Log) (demand : Demand) (status : ℕ) : Type 0 where
  pub fails : Bool
  pub fails_is : IsTrue fails ↔ HasFailing tower closed
  pub few : Bool
  pub few_is : IsTrue few ↔ HasTooFew tower closed demand.least demand.least_each
  pub in_doubt : Bool
  pub in_doubt_is : (demand.doubt ≡ 1) ⊎ AreAllInDoubt tower closed logs in_doubt
  pub status_is : status ≡ status_by (failing_status demand.doubt in_doubt) (list_any is_broken logs) fails (list_any has_refused logs) few
