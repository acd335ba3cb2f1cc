-- What `check` and `safe` have written where they did not break off, and their status.
use Rattle.std.proofs.Common.{◌≡◌, ℕ, false, List, map, not, Option, Some, None, rules, subst}
use Rattle.std.specs.Prelude.{IfSome, is_some}
use Rattle.std.specs.Io.KnownBytes.{Appends}
use Rattle.intervals.specs.declared.operation.RegId.{RegId}
use Rattle.tower_file.specs.Contents.{TowerModel}
use Rattle.tower_file.specs.Tower.{IsTowerOf}
use Rattle.shards.specs.Closing.{ClosedShard}
use Rattle.logs.specs.declared.log.Log.{Log}
use Rattle.feeders.specs.Readers.{AreReadOf}
use Rattle.logs.specs.Run.{IsRun}
use Rattle.words.specs.Words.{AskedCheck, names_lines}
use Rattle.check_command.specs.declared.one_register.Audit.{Audit}
use Rattle.check_command.specs.Audit.{IsAudit}
use Rattle.command_parts.specs.Status.{status_of}
use Rattle.check_command.specs.Verdict.{IsAudited, verdict_line}
use Rattle.check_command.specs.Checked.{IsChecked, IsPrinted}
use Rattle.command_parts.specs.Tower.{IsNamed}
use Rattle.command_parts.specs.Status.{IsStatus}
use Rattle.command_parts.specs.Kept.{AreKeptIf}

-- `AreTheir known` says that the files hold these texts
pub checked : (asked : AskedCheck) (tower : TowerModel) (order : Option RegId) (closed : List ClosedShard) (logs : List Log) (lefts : List (Option (List ℕ))) (AreTheir : List (List ℕ) → Type 0) (kept : List (List ℕ)) (status : ℕ) (old new : Option (List ℕ))
    → IsNamed tower asked.order order
    → ((known : List (List ℕ)) → AreTheir known → lefts ≡ map (λ text. Some text) known)
    → ((read : List (List ℕ)) × AreReadOf lefts logs read × IsRun tower asked.moments asked.shards read closed logs)
    → AreKeptIf (names_lines asked.form) lefts logs kept
    → ((text : List ℕ) × IsPrinted asked status tower closed logs order kept text × Appends old new text)
    → IsStatus tower closed logs asked.demand status
    → (file : List ℕ) → IsTowerOf file tower → (traces : List (List ℕ)) → AreTheir traces → IsChecked asked file traces status old new
checked asked tower order closed logs lefts AreTheir kept status old new named opened run are_kept report is =
    λ file says traces are. record {
      tower = tower;
      says = says;
      order = order;
      named = named;
      closed = closed;
      logs = logs;
      read = run.0;
      are_read = subst (λ (l : List (Option (List ℕ))). AreReadOf l logs run.0) (opened traces are) run.1;
      run = run.2;
      kept = kept;
      are_kept = subst (λ (l : List (Option (List ℕ))). AreKeptIf (names_lines asked.form) l logs kept) (opened traces are) are_kept;
      text = report.0;
      printed = report.1;
      written = report.2;
      status_is = is;
    }

pub audited : (left : Option (List ℕ)) (audit : Audit) (status : ℕ) (old new : Option (List ℕ))
    → IsAudit left audit
    → Appends old new (verdict_line audit.kind audit.holds audit.operations)
    → status ≡ status_of (is_some audit.broken) (not audit.holds) audit.refused false
    → IfSome left (λ bytes. IsAudited bytes status old new)
audited None audit status old new is written status_is = search rules
audited (Some input) audit status old new is written status_is = record {
  broken = audit.broken;
  read = is.0;
  is_read = is.1;
  items = is.2.0;
  are = is.2.1;
  kind = audit.kind;
  holds = audit.holds;
  refused = audit.refused;
  operations = audit.operations;
  verdict = is.2.2;
  written = written;
  status_is = status_is;
}
