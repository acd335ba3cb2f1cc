-- What was told of a shard, as the changes by the entries of its journal.
use Rattle.std.proofs.Common.{◌≡◌, ◌<◌, ◌++◌, ℕ, true, false, List, Option, length, arith, subst}
use Rattle.tower_file.specs.Contents.{TowerModel}
use Rattle.shards.specs.declared.entry.VerdictChange.{VerdictChange}
use Rattle.shards.specs.Closing.{ClosedShard, journal_of}
use Rattle.shards.specs.VerdictChange.{AreVerdictChanges}
use Rattle.logs.specs.declared.log.Log.{Log}
use Rattle.logs.specs.Run.{plan_of_run}
use Rattle.watch.specs.declared.run.Terms.{Terms}
use Rattle.watch.specs.Watched.{IsWatched, changes_in}

pub told_all : (tower : TowerModel) (terms : Terms) (left : List (Option (List ℕ))) (closed : List ClosedShard) (logs : List Log) (old new : Option (List ℕ))
    → (watched : IsWatched tower terms left closed logs false old new) → (at : ℕ) → at < terms.shards
    → AreVerdictChanges (plan_of_run tower terms.shards watched.traces) (journal_of closed at) (changes_in terms.shards at watched.told)
told_all tower terms left closed logs old new watched at within =
    let many : length closed ≡ terms.shards = watched.run.finished.many in
    subst (λ (changes : List VerdictChange). AreVerdictChanges (plan_of_run tower terms.shards watched.traces) (journal_of closed at) changes)
    (watched.are_told at within) (watched.run.finished.changes at (omega (arith, many, within)))

pub told_first : (tower : TowerModel) (terms : Terms) (left : List (Option (List ℕ))) (closed : List ClosedShard) (logs : List Log) (old new : Option (List ℕ))
    → (watched : IsWatched tower terms left closed logs true old new) → (at : ℕ) → at < terms.shards
    → (rest : List VerdictChange) × AreVerdictChanges (plan_of_run tower terms.shards watched.traces) (journal_of closed at) (changes_in terms.shards at watched.told ++ rest)
told_first tower terms left closed logs old new watched at within =
    let many : length closed ≡ terms.shards = watched.run.finished.many in
    let told = watched.are_told at within in (
      told.0,
      subst (λ (changes : List VerdictChange). AreVerdictChanges (plan_of_run tower terms.shards watched.traces) (journal_of closed at) changes)
          told.1 (watched.run.finished.changes at (omega (arith, many, within))),
    )
