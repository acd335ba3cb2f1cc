-- What the command `watch` writes of traces, and its status.
use Rattle.std.specs.Prelude.{◌≡◌, ◌⊎◌, ℕ, Bool, true, false, List, map, Option, Some, IfSome}
use Rattle.std.specs.Io.KnownBytes.{Appends}
use Rattle.tower_file.specs.Contents.{TowerModel}
use Rattle.tower_file.specs.Tower.{IsTowerOf}
use Rattle.shards.specs.Closing.{ClosedShard}
use Rattle.logs.specs.declared.log.Log.{Log}
use Rattle.logs.specs.declared.notice.Notice.{Notice}
use Rattle.watch.specs.declared.run.Terms.{Terms}
use Rattle.watch.specs.declared.text.NoticeForm.{NoticeForm}
use Rattle.watch.specs.declared.text.NoticeForm.TheVariants.{Line, Record}
use Rattle.watch.specs.declared.fault.WatchFault.{WatchFault}
use Rattle.watch.specs.declared.fault.WatchFault.TheVariants as watches
use Rattle.watch.specs.Text.{text_of_notices}
use Rattle.watch.specs.Watched.{IsWatched}
use Rattle.words.specs.declared.watch.LineForm.{LineForm}
use Rattle.words.specs.declared.watch.LineForm.TheVariants.{Text, Json}
use Rattle.words.specs.Words.{AskedWatch}
use Rattle.words.specs.declared.demand.Demand.{Demand}
use Rattle.command_parts.specs.declared.fault.CommandFault.{CommandFault}
use Rattle.command_parts.specs.declared.fault.CommandFault.TheVariants.{Memory, Unwritable, Shard, Untold}
use Rattle.command_parts.specs.Status.{IsStatus}
use Rattle.command_parts.specs.Tower.{OfTower}

-- how notices are written
abbrev pub notice_form : LineForm → NoticeForm
notice_form Text = Line
notice_form Json = Record

-- how the registers are watched
abbrev pub watch_terms : AskedWatch → Terms
watch_terms asked = record { field = asked.moments; shards = asked.shards; form = notice_form asked.form; until_fail = asked.until_fail; settle = asked.settle }

-- the fault of a command whose watch broke off
abbrev pub unfollowed : WatchFault → CommandFault
unfollowed watches.Memory = Memory
unfollowed watches.Write = Unwritable
unfollowed (watches.Shard fault) = Shard fault
unfollowed watches.Untold = Untold

-- the status of a watch: 1 where a register that failed stopped it, else that of its run, by what has to be met
abbrev pub IsWatchStatus : TowerModel → List ClosedShard → List Log → Demand → Bool → ℕ → Type 0
IsWatchStatus tower closed logs demand true status = status ≡ 1
IsWatchStatus tower closed logs demand false status = IsStatus tower closed logs demand status

-- what `watch` did: a feeder for each trace fed it to the registers of the file's tower, as far as it was read, and the
-- notices of what happened were written (`IsWatched`)
pub record IsFollowed (asked : AskedWatch) (file : List ℕ) (traces : List (List ℕ)) (status : ℕ) (old new : Option (List ℕ)) : Type 0 where
  pub tower : TowerModel
  pub says : IsTowerOf file tower
  pub closed : List ClosedShard
  pub logs : List Log
  pub stopped : Bool
  pub watched : IsWatched tower (watch_terms asked) (map (λ trace. Some trace) traces) closed logs stopped old new
  pub status_is : IsWatchStatus tower closed logs asked.demand stopped status

-- whole notices, of registers of the tower that is asked for, were written, and nothing else
pub record HasNoticesAlone (asked : AskedWatch) (files : List ℕ → Option (List ℕ)) (old new : Option (List ℕ)) : Type 0 where
  pub tower : TowerModel
  pub says : OfTower asked.tower files asked.traces (λ file. IsTowerOf file tower)
  pub notices : List Notice
  pub written : Appends old new (text_of_notices (notice_form asked.form) tower.registers notices)

-- a watch that broke off wrote nothing, or whole notices alone
abbrev pub HasWholeNotices : AskedWatch → (List ℕ → Option (List ℕ)) → Option (List ℕ) → Option (List ℕ) → Type 0
HasWholeNotices asked files old new = (new ≡ old) ⊎ HasNoticesAlone asked files old new
