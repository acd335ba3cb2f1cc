-- What a watch wrote, and what it leaves.
use Rattle.std.specs.Prelude.{◌≡◌, ◌<◌, ◌==◌, ◌%◌, ◌&&◌, ℕ, Bool, true, false, not, List, [], ◌∷◌, ◌++◌, Option, Some, None, All, filter_map, option_map, if◌then◌else◌}
use Rattle.std.specs.List.{list_any, slice_get}
use Rattle.std.specs.Io.KnownBytes.{Appends}
use Rattle.tower_file.specs.Contents.{TowerModel}
use Rattle.shards.specs.declared.entry.VerdictChange.{VerdictChange}
use Rattle.shards.specs.Closing.{ClosedShard, changes_of, journal_of}
use Rattle.feeders.specs.declared.fault.RunFault.{RunFault}
use Rattle.feeders.specs.declared.fault.RunFault.TheVariants as runs
use Rattle.logs.specs.declared.log.Log.{Log}
use Rattle.logs.specs.declared.notice.Notice.{Notice}
use Rattle.logs.specs.declared.notice.Notice.TheVariants.{Changed, Refused, Broke, Ended}
use Rattle.feeders.specs.Readers.{AreReadOf}
use Rattle.logs.specs.Run.{IsRun}
use Rattle.watch.specs.declared.fault.WatchFault.{WatchFault}
use Rattle.watch.specs.declared.fault.WatchFault.TheVariants.{Memory, Shard}
use Rattle.watch.specs.declared.run.Terms.{Terms}
use Rattle.watch.specs.Noted.{AreNoted, IsToldOf}
use Rattle.watch.specs.Settling.{AreWrittenOf}
use Rattle.watch.specs.Text.{text_of_notices}

-- the fault of a watch by that of its run
abbrev pub unwatched : RunFault → WatchFault
unwatched runs.Memory = Memory
unwatched (runs.Shard fault) = Shard fault

-- whether a watch ends at this notice: a register fails, where it is to end at the first that does
abbrev pub ends_at : Bool → Notice → Bool
ends_at until_fail (Changed feeder place line change) = until_fail && not change.holds
ends_at until_fail (Refused feeder place line left_out) = false
ends_at until_fail (Broke feeder broken line) = false
ends_at until_fail (Ended feeder elements) = false

-- the last one of the notices ends the watch, and none before it does
pub record EndsAtLast (until_fail : Bool) (notices : List Notice) : Type 0 where
  pub before : List Notice
  pub last : Notice
  pub parts : notices ≡ before ++ last ∷ []
  pub none : list_any (ends_at until_fail) before ≡ false
  pub ends : ends_at until_fail last ≡ true

-- the watch stopped at the last one of the notices; or it did not stop, and none of them ends it
abbrev pub IsEnd : Bool → List Notice → Bool → Type 0
IsEnd until_fail notices true = EndsAtLast until_fail notices
IsEnd until_fail notices false = list_any (ends_at until_fail) notices ≡ false

-- the change that a notice tells, where its register is in this shard; n is the number of shards
abbrev pub change_in : ℕ → ℕ → Notice → Option VerdictChange
change_in n at (Changed feeder place line change) = if change.register.0 % n == at then Some change else None
change_in n at (Refused feeder place line left_out) = None
change_in n at (Broke feeder broken line) = None
change_in n at (Ended feeder elements) = None

-- the changes that notices tell in a shard, in order
abbrev pub changes_in : ℕ → ℕ → List Notice → List VerdictChange
changes_in n at notices = filter_map (change_in n at) notices

-- the notices tell, of each of n shards, the changes of verdicts by the entries of its journal, in order
abbrev pub AreTold : ℕ → List ClosedShard → Bool → List Notice → Type 0
AreTold n closed stopped notices = (at : ℕ) → at < n → IsToldOf stopped (changes_in n at notices) (changes_of closed at)

-- the journal of a closed shard has an entry of this number by this feeder
abbrev pub HasEntryBy : List ClosedShard → ℕ → ℕ → ℕ → Type 0
HasEntryBy closed at number feeder = option_map (λ entry. entry.feeder) (slice_get (journal_of closed at) number) ≡ Some feeder

-- the entry of a change that is told is by the feeder that the notice names
abbrev pub IsByEntry : ℕ → List ClosedShard → Notice → Type 0
IsByEntry n closed (Changed feeder place line change) = HasEntryBy closed (change.register.0 % n) change.number feeder
IsByEntry n closed (Refused feeder place line left_out) = Unit {0}
IsByEntry n closed (Broke feeder broken line) = Unit {0}
IsByEntry n closed (Ended feeder elements) = Unit {0}

-- the entry of each change that is told is by the feeder that its notice names
abbrev pub AreByEntries : ℕ → List ClosedShard → List Notice → Type 0
AreByEntries n closed notices = All (IsByEntry n closed) notices

-- what a watch did of what readers had left: a feeder for each fed what it gave to the registers of the tower; it was
-- told each change of a verdict in the order of its shard's journal, and each refusal, break and end in the order of its
-- trace, up to the first register that failed, where that was to end it; and of what it was told the texts of those
-- notices were written that are settled
pub record IsWatched (tower : TowerModel) (terms : Terms) (left : List (Option (List ℕ))) (closed : List ClosedShard) (logs : List Log) (stopped : Bool) (old new : Option (List ℕ)) : Type 0 where
  pub notices : List Notice
  pub written : Appends old new (text_of_notices terms.form tower.registers notices)
  pub traces : List (List ℕ)
  pub are_read : AreReadOf left logs traces
  pub run : IsRun tower terms.field terms.shards traces closed logs
  pub told : List Notice
  pub are_told : AreTold terms.shards closed stopped told
  pub by_entries : AreByEntries terms.shards closed told
  pub are_noted : AreNoted logs stopped told
  pub settled : AreWrittenOf terms.settle stopped told notices
  pub end : IsEnd terms.until_fail notices stopped
