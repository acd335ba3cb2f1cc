-- What `show` has written where it did not break off, and its status.
use Rattle.std.proofs.Common.{◌≡◌, ℕ, List, map, Option, Some, None, rules, subst}
use Rattle.std.specs.Prelude.{IfSome}
use Rattle.std.specs.Io.KnownBytes.{Appends}
use Rattle.intervals.specs.declared.operation.RegId.{RegId}
use Rattle.tower_file.specs.Contents.{TowerModel}
use Rattle.tower_file.specs.Tower.{IsTowerOf}
use Rattle.shards.specs.Closing.{ClosedShard}
use Rattle.logs.specs.declared.log.Log.{Log}
use Rattle.feeders.specs.Readers.{AreReadOf}
use Rattle.logs.specs.Run.{IsRun}
use Rattle.words.specs.Words.{AskedShow}
use Rattle.command_parts.specs.Tower.{IsNamed}
use Rattle.command_parts.specs.Status.{IsStatus}
use Rattle.show_command.specs.Shown.{IsShown}

-- what `show` has written; `AreTheir known` says that the files hold these texts
pub shown : (asked : AskedShow) (tower : TowerModel) (register : Option RegId) (closed : List ClosedShard) (logs : List Log) (lefts : List (Option (List ℕ))) (AreTheir : List (List ℕ) → Type 0) (text : List ℕ) (status : ℕ) (old new : Option (List ℕ))
    → IsNamed tower asked.register register
    → ((known : List (List ℕ)) → AreTheir known → lefts ≡ map (λ text. Some text) known)
    → ((read : List (List ℕ)) × AreReadOf lefts logs read × IsRun tower asked.moments 1 read closed logs)
    → Appends old new text
    → IsStatus tower closed logs asked.demand status
    → (file : List ℕ) → IsTowerOf file tower → (traces : List (List ℕ)) → AreTheir traces → IsShown asked file traces status old new
shown asked tower register closed logs lefts AreTheir text status old new named opened run written is =
    λ file says traces are. record {
      tower = tower;
      says = says;
      register = register;
      named = named;
      closed = closed;
      logs = logs;
      read = run.0;
      are_read = subst (λ (l : List (Option (List ℕ))). AreReadOf l logs run.0) (opened traces are) run.1;
      run = run.2;
      text = text;
      written = written;
      status_is = is;
    }
