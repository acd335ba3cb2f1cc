-- What a watch leaves, by its run and by what was told of it.
use Rattle.std.proofs.Common.{◌≡◌, ◌≢◌, ◌∙◌, ℕ, Bool, List, Option, ap, subst}
use Rattle.std.specs.Prelude.{Result, Ok, Err, IfErr, IfOk, is_ok}
use Rattle.std.specs.Io.KnownBytes.{Appends}
use Rattle.tower_file.specs.Contents.{Register, TowerModel}
use Rattle.feeders.specs.declared.fault.RunFault.{RunFault}
use Rattle.logs.specs.declared.run.Run.{Run}
use Rattle.logs.specs.declared.notice.Notice.{Notice}
use Rattle.feeders.specs.Readers.{AreReadOf}
use Rattle.logs.specs.Run.{IsRun}
use Rattle.watch.specs.declared.fault.WatchFault.{WatchFault}
use Rattle.watch.specs.declared.run.Terms.{Terms}
use Rattle.watch.specs.declared.run.Watched.{Watched}
use Rattle.watch.specs.declared.teller.TellerState.{TellerState}
use Rattle.watch.specs.declared.fault.WatchFault.TheVariants.{Write}
use Rattle.watch.specs.Noted.{AreNoted}
use Rattle.watch.specs.Settling.{AreWrittenOf}
use Rattle.watch.specs.Teller.{AreWrittenIn, HasWritten, IsStateAfter, IsToldAll}
use Rattle.watch.specs.Text.{text_of_notices}
use Rattle.watch.specs.Watched.{AreByEntries, AreTold, IsEnd, IsWatched}

-- a run over what readers had left
abbrev pub IsRunOver : TowerModel → Terms → List (Option (List ℕ)) → Run → Type 0
IsRunOver tower terms left run = (traces : List (List ℕ)) × AreReadOf left run.logs.items traces × IsRun tower terms.field terms.shards traces run.closed run.logs.items

pub is_watched : (result : Result Watched WatchFault) (run : Result Run RunFault) (tower : TowerModel) (terms own : Terms) (left : List (Option (List ℕ))) (registers : List Register)
    → (state : TellerState) (told : List Notice) (old new : Option (List ℕ))
    → tower.registers ≡ registers → terms ≡ own
    → IfOk run (IsRunOver tower terms left) → IfOk result (λ watched. run ≡ Ok watched.run)
    → IfOk result (λ watched. AreTold terms.shards watched.run.closed watched.stopped told × AreByEntries terms.shards watched.run.closed told × AreNoted watched.run.logs.items watched.stopped told)
    → IfOk result (λ watched. (asked : Bool) (written : List Notice) → IsStateAfter asked written state → IsEnd asked written watched.stopped)
    → IfOk result (λ watched. (settle : ℕ) (written : List Notice) → AreWrittenIn state settle told written → AreWrittenOf settle watched.stopped told written) → IfOk result (λ watched. HasWritten state)
    → (finished : Bool) → finished ≡ is_ok run → IsToldAll own registers old new told finished state
    → IfOk result (λ watched. IsWatched tower terms left watched.run.closed watched.run.logs.items watched.stopped old new)
is_watched (Err fault) run tower terms own left registers state told old new r t over of compared end settled written finished is_over all = tt
is_watched (Ok watched) run tower terms own left registers state told old new r t over of compared end settled written finished is_over all =
    let is = subst (λ (run : Result Run RunFault). IfOk run (IsRunOver tower terms left)) of over in
    let mine : IsToldAll terms tower.registers old new told finished state = rw (r, t) all in record {
      notices = mine.written;
      written = mine.texts written;
      traces = is.0;
      are_read = is.1;
      run = is.2;
      told = told;
      are_told = compared.0;
      by_entries = compared.1;
      are_noted = compared.2;
      settled = settled terms.settle mine.written (mine.settled (is_over ∙ ap is_ok of));
      end = end terms.until_fail mine.written mine.after;
    }

-- a watch that broke off, and not by its output, wrote whole notices
pub is_whole : (result : Result Watched WatchFault) (terms own : Terms) (here registers : List Register) (state : TellerState) (told : List Notice) (old new : Option (List ℕ))
    → here ≡ registers → terms ≡ own → IfErr result (λ fault. fault ≢ Write → HasWritten state) → (finished : Bool) → IsToldAll own registers old new told finished state
    → IfErr result (λ fault. fault ≢ Write → (notices : List Notice) × Appends old new (text_of_notices terms.form here notices))
is_whole (Err fault) terms own here registers state told old new r t written finished all =
    let mine : IsToldAll terms here old new told finished state = rw (r, t) all in
    λ other. (mine.written, mine.texts (written other))
is_whole (Ok watched) terms own here registers state told old new r t written finished all = tt
