-- What `watch` has written, and its status.
use Rattle.std.proofs.Common.{◌≡◌, ◌≢◌, inr, ℕ, Bool, List, map, Option, Some, None, rules, subst}
use Rattle.std.specs.Prelude.{IfSome}
use Rattle.std.specs.Io.KnownBytes.{Appends}
use Rattle.tower_file.specs.Contents.{TowerModel}
use Rattle.tower_file.specs.Tower.{IsTowerOf}
use Rattle.shards.specs.Closing.{ClosedShard}
use Rattle.logs.specs.declared.log.Log.{Log}
use Rattle.logs.specs.declared.notice.Notice.{Notice}
use Rattle.watch.specs.declared.fault.WatchFault.{WatchFault}
use Rattle.watch.specs.declared.fault.WatchFault.TheVariants as watches
use Rattle.watch.specs.declared.run.Terms.{Terms}
use Rattle.watch.specs.Text.{text_of_notices}
use Rattle.watch.specs.Watched.{IsWatched}
use Rattle.words.specs.Words.{AskedWatch}
use Rattle.command_parts.specs.Tower.{OfTower}
use Rattle.command_parts.specs.declared.fault.CommandFault.{CommandFault}
use Rattle.command_parts.specs.declared.fault.CommandFault.TheVariants as commands
use Rattle.watch_command.specs.Watching.{HasWholeNotices, IsFollowed, IsWatchStatus, watch_terms}

-- what `watch` has written; `AreTheir known` says that the files hold these texts
pub followed : (asked : AskedWatch) (tower : TowerModel) (closed : List ClosedShard) (logs : List Log) (stopped : Bool) (terms : Terms) (lefts : List (Option (List ℕ))) (AreTheir : List (List ℕ) → Type 0) (status : ℕ) (old new : Option (List ℕ))
    → ((known : List (List ℕ)) → AreTheir known → lefts ≡ map (λ text. Some text) known)
    → terms ≡ watch_terms asked
    → IsWatched tower terms lefts closed logs stopped old new
    → IsWatchStatus tower closed logs asked.demand stopped status
    → (file : List ℕ) → IsTowerOf file tower → (traces : List (List ℕ)) → AreTheir traces → IsFollowed asked file traces status old new
followed asked tower closed logs stopped terms lefts AreTheir status old new opened same watched is =
    λ file says traces are. record {
      tower = tower;
      says = says;
      closed = closed;
      logs = logs;
      stopped = stopped;
      watched = subst (λ (l : List (Option (List ℕ))). IsWatched tower (watch_terms asked) l closed logs stopped old new) (opened traces are)
          (subst (λ (t : Terms). IsWatched tower t lefts closed logs stopped old new) same watched);
      status_is = is;
    }

-- a watch that broke off
pub broke_whole : (asked : AskedWatch) (files : List ℕ → Option (List ℕ)) (tower : TowerModel) (terms : Terms) (fault : WatchFault) (command : CommandFault) (old new : Option (List ℕ))
    → OfTower asked.tower files asked.traces (λ file. IsTowerOf file tower)
    → terms ≡ watch_terms asked
    → (command ≢ commands.Unwritable → fault ≢ watches.Write)
    → (fault ≢ watches.Write → (notices : List Notice) × Appends old new (text_of_notices terms.form tower.registers notices))
    → command ≢ commands.Unwritable → HasWholeNotices asked files old new
broke_whole asked files tower terms fault command old new says same write whole other =
    let wrote = whole (write other) in
    inr (record {
      tower = tower;
      says = says;
      notices = wrote.0;
      written = subst (λ (t : Terms). Appends old new (text_of_notices t.form tower.registers wrote.0)) same wrote.1;
    })

-- a watch that is over, where its status is not found
pub watched_whole : (asked : AskedWatch) (files : List ℕ → Option (List ℕ)) (tower : TowerModel) (terms : Terms) (lefts : List (Option (List ℕ))) (closed : List ClosedShard) (logs : List Log) (stopped : Bool) (old new : Option (List ℕ))
    → OfTower asked.tower files asked.traces (λ file. IsTowerOf file tower)
    → terms ≡ watch_terms asked
    → IsWatched tower terms lefts closed logs stopped old new
    → HasWholeNotices asked files old new
watched_whole asked files tower terms lefts closed logs stopped old new says same watched =
    inr (record {
      tower = tower;
      says = says;
      notices = watched.notices;
      written = subst (λ (t : Terms). Appends old new (text_of_notices t.form tower.registers watched.notices)) same watched.written;
    })
