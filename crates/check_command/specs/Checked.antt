-- What the command `check` prints of traces, and its status.
use Rattle.std.specs.Prelude.{◌≡◌, ◌++◌, ◌∷◌, [], ◌&&◌, ℕ, List, count_by, flat_map, map, nat_eq, if◌then◌else◌, Option, Some, codes}
use Rattle.std.specs.Io.KnownBytes.{Appends}
use Rattle.intervals.specs.declared.operation.RegId.{RegId}
use Rattle.tower_file.specs.Contents.{TowerModel}
use Rattle.tower_file.specs.Tower.{IsTowerOf}
use Rattle.shards.specs.Closing.{ClosedShard}
use Rattle.logs.specs.declared.log.Log.{Log}
use Rattle.feeders.specs.Readers.{AreReadOf}
use Rattle.logs.specs.Run.{IsRun}
use Rattle.report.specs.Report.{IsReport}
use Rattle.report.specs.Refused.{refused}
use Rattle.report.specs.Summary.{IsSummary, is_broken}
use Rattle.report.specs.declared.fault.ReportFault.{ReportFault}
use Rattle.report.specs.declared.few.Least.{Least}
use Rattle.report.specs.declared.fault.ReportFault.TheVariants as reports
use Rattle.excerpt.specs.Excerpt.{IsTextOfExcerpt}
use Rattle.ci_forms.specs.Ci.{IsTextForCi}
use Rattle.ci_forms.specs.declared.told.CiServer.{CiServer}
use Rattle.ci_forms.specs.declared.told.CiServer.TheVariants as servers
use Rattle.records.specs.declared.line.Notation.{Notation}
use Rattle.records.specs.declared.line.Notation.TheVariants as notations
use Rattle.records.specs.Run.{IsTextOfRecords, RunNames}
use Rattle.words.specs.declared.check.ReportForm.{ReportForm}
use Rattle.words.specs.declared.demand.Demand.{Demand}
use Rattle.words.specs.declared.check.ReportForm.TheVariants.{Report, Summary, Json, Edn, GitHub, Junit, Trace}
use Rattle.jepsen_form.specs.declared.item.MomentField.{MomentField}
use Rattle.jepsen_form.specs.declared.item.MomentField.TheVariants.{Index, Time}
use Rattle.words.specs.Words.{AskedCheck, file_of, names_lines}
use Rattle.command_parts.specs.declared.fault.CommandFault.{CommandFault}
use Rattle.command_parts.specs.declared.fault.CommandFault.TheVariants.{Memory, Unwritable}
use Rattle.command_parts.specs.Call.{moment_words, tower_words, trace_word}
use Rattle.command_parts.specs.Kept.{AreKeptIf}
use Rattle.command_parts.specs.Status.{IsStatus}
use Rattle.command_parts.specs.Tower.{IsNamed}

-- the word of the field that has the moments
abbrev pub moment_word : MomentField → List ℕ
moment_word Index = codes "index"
moment_word Time = codes "time"

-- how many operations have to stand, at least
abbrev pub least_asked : Demand → Least
least_asked demand = record { all = demand.least; each = demand.least_each }

-- what the first and the last record of a run name
abbrev pub record_names : AskedCheck → RunNames
record_names asked = record { tower = file_of asked.tower; traces = asked.traces; moments = moment_word asked.moments; least = least_asked asked.demand }

-- the text has the records of a run in this notation, with the lines and the bytes of elements in the texts that were
-- kept of the traces
abbrev pub ArePrinted : Notation → AskedCheck → ℕ → TowerModel → List ClosedShard → List Log → Option RegId → List (List ℕ) → List ℕ → Type 0
ArePrinted notation asked status tower closed logs order kept text =
    IsTextOfRecords notation (record_names asked) asked.only_failing status tower closed logs order kept text

-- the text is what this CI server reads of a run, with the lines of elements in the texts that were kept of the traces
abbrev pub IsPrintedForCi : CiServer → AskedCheck → TowerModel → List ClosedShard → List Log → List (List ℕ) → List ℕ → Type 0
IsPrintedForCi server asked tower closed logs kept text = IsTextForCi server asked.traces (least_asked asked.demand) tower closed logs kept text

-- the line that names the call of `lint` which shows what was refused and what broke; empty where nothing was
abbrev pub advice_text : AskedCheck → List Log → List ℕ
advice_text asked logs =
    if nat_eq (refused logs) 0 && nat_eq (count_by is_broken logs) 0 then []
    else codes "see: regaudit lint" ++ tower_words asked.tower ++ moment_words asked.moments ++ flat_map trace_word asked.traces ++ 10 ∷ []

-- the text is the summary of a run, and that line after it
pub record IsSummarised (asked : AskedCheck) (tower : TowerModel) (closed : List ClosedShard) (logs : List Log) (text : List ℕ) : Type 0 where
  pub summary : List ℕ
  pub is : IsSummary tower (least_asked asked.demand) closed logs summary
  pub text_is : text ≡ summary ++ advice_text asked logs

-- the text is what is printed of a run in this form: the report, with the order that is asked for, the summary, the
-- records, what a CI server reads, or the trace of the operations that show how registers fail
abbrev pub IsPrintedIn : ReportForm → AskedCheck → ℕ → TowerModel → List ClosedShard → List Log → Option RegId → List (List ℕ) → List ℕ → Type 0
IsPrintedIn Report asked status tower closed logs order kept text = IsReport tower closed logs order text
IsPrintedIn Summary asked status tower closed logs order kept text = IsSummarised asked tower closed logs text
IsPrintedIn Json asked status tower closed logs order kept text = ArePrinted notations.Json asked status tower closed logs order kept text
IsPrintedIn Edn asked status tower closed logs order kept text = ArePrinted notations.Edn asked status tower closed logs order kept text
IsPrintedIn GitHub asked status tower closed logs order kept text = IsPrintedForCi servers.GitHub asked tower closed logs kept text
IsPrintedIn Junit asked status tower closed logs order kept text = IsPrintedForCi servers.Junit asked tower closed logs kept text
IsPrintedIn Trace asked status tower closed logs order kept text = IsTextOfExcerpt tower asked.moments closed text

-- the text is what `check` prints of a run with this status
abbrev pub IsPrinted : AskedCheck → ℕ → TowerModel → List ClosedShard → List Log → Option RegId → List (List ℕ) → List ℕ → Type 0
IsPrinted asked status tower closed logs order kept text = IsPrintedIn asked.form asked status tower closed logs order kept text

-- the fault of a command whose report was not written: out of memory, or the output failed
abbrev pub unreported : ReportFault → CommandFault
unreported reports.Memory = Memory
unreported reports.Write = Unwritable

-- what `check` did: a feeder for each trace fed it to the registers of the file's tower, as far as it was read (all,
-- or a prefix where the reading broke off), and what is printed of that run was written
pub record IsChecked (asked : AskedCheck) (file : List ℕ) (traces : List (List ℕ)) (status : ℕ) (old new : Option (List ℕ)) : Type 0 where
  pub tower : TowerModel
  pub says : IsTowerOf file tower
  pub order : Option RegId
  pub named : IsNamed tower asked.order order
  pub closed : List ClosedShard
  pub logs : List Log
  pub read : List (List ℕ)
  pub are_read : AreReadOf (map (λ trace. Some trace) traces) logs read
  pub run : IsRun tower asked.moments asked.shards read closed logs
  pub kept : List (List ℕ)
  pub are_kept : AreKeptIf (names_lines asked.form) (map (λ trace. Some trace) traces) logs kept
  pub text : List ℕ
  pub printed : IsPrinted asked status tower closed logs order kept text
  pub written : Appends old new text
  pub status_is : IsStatus tower closed logs asked.demand status
