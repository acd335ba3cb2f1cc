-- What the command `lint` found in a tower file and in traces, and printed.
use Rattle.std.specs.Prelude.{◌≡◌, ◌<◌, ◌⊎◌, ◌++◌, ◌∷◌, [], ℕ, List, length, map, Option, Some, None, IfSome}
use Rattle.std.specs.Borrow.{Bor}
use Rattle.std.specs.Io.KnownBytes.{Appends}
use Rattle.clap.specs.Words.{Text}
use Rattle.intervals.specs.declared.claim.Kind.{Kind}
use Rattle.jepsen_form.specs.declared.item.MomentField.{MomentField}
use Rattle.tower_file.specs.Contents.{TowerModel}
use Rattle.tower_file.specs.Located.{HasFaultAt, ByteSpan}
use Rattle.tower_file.specs.Tower.{HasTowerFault, IsTowerOf}
use Rattle.tower_file.specs.declared.fault.TowerFault.{TowerFault}
use Rattle.shards.specs.Closing.{ClosedShard}
use Rattle.logs.specs.declared.log.Log.{Log}
use Rattle.feeders.specs.Readers.{AreReadOf}
use Rattle.logs.specs.Run.{IsRun}
use Rattle.lint.specs.declared.finding.TraceFindings.{TraceFindings}
use Rattle.lint.specs.declared.print.Format.{Format}
use Rattle.lint.specs.declared.print.Format.TheVariants as forms
use Rattle.lint.specs.declared.source.SourceText.{SourceText}
use Rattle.lint.specs.Found.{AreFoundIn}
use Rattle.lint.specs.Grade.{lint_status}
use Rattle.lint.specs.Short.{short_text}
use Rattle.lint.specs.Tower.{HasNotesAlone, IsOneFault}
use Rattle.words.specs.declared.lint.LintForm.{LintForm}
use Rattle.words.specs.declared.lint.LintForm.TheVariants as asked_forms
use Rattle.words.specs.Words.{AskedLint, AskedTower, OfFile, OfTraces}
use Rattle.command_parts.specs.Tower.{OfNames}
use Rattle.lint_command.specs.Denied.{AreDenied}

-- what is found in traces by the logs of a run over them, in one shard; nothing where there is no trace
pub record AreFindingsOfRun (tower : TowerModel) (field : MomentField) (traces : List (List ℕ)) (found : List TraceFindings) : Type 0 where
  pub closed : List ClosedShard
  pub logs : List Log
  pub read : List (List ℕ)
  pub read_is : AreReadOf (map (λ trace. Some trace) traces) logs read
  pub run : 0 < length traces → IsRun tower field 1 read closed logs
  pub are : AreFoundIn traces logs found

-- what is found where the file says a tower: in the traces by that tower, and in the file itself nothing but notes
pub record AreOfTower (asked : AskedLint) (name file : List ℕ) (traces : List (List ℕ)) (names : List Text) (found : List TraceFindings) : Type 0 where
  pub tower : TowerModel
  pub says : IsTowerOf file tower
  pub in_traces : List TraceFindings
  pub are : AreFindingsOfRun tower asked.moments traces in_traces
  pub in_file : List TraceFindings
  pub notes : HasNotesAlone in_file
  pub found_is : found ≡ in_traces ++ in_file
  pub names_are : names ≡ asked.traces ++ name ∷ []

-- what is found where the file says no tower: the file's fault alone, at the bytes that are wrong
pub record IsOfFault (name file : List ℕ) (names : List Text) (found : List TraceFindings) : Type 0 where
  pub fault : TowerFault
  pub span : ByteSpan
  pub has : HasTowerFault file fault
  pub at : HasFaultAt file fault span
  pub one : IsOneFault file fault (Some span) found
  pub names_are : names ≡ name ∷ []

-- what is found in traces by the tower of the registers that they name, each of this kind
abbrev pub AreOfNames : Kind → MomentField → List (List ℕ) → List TraceFindings → Type 0
AreOfNames kind field traces found = OfNames kind traces (λ file. (tower : TowerModel) × IsTowerOf file tower × AreFindingsOfRun tower field traces found)

-- what is found in the files of these names, by the tower file that is named, or else by the registers that the traces
-- name
abbrev pub AreFoundBy : AskedTower → AskedLint → (Text → Option (List ℕ)) → List (List ℕ) → List Text → List TraceFindings → Type 0
AreFoundBy (OfTraces kind) asked files traces names found = AreOfNames kind asked.moments traces found × (names ≡ asked.traces)
AreFoundBy (OfFile name) asked files traces names found =
    IfSome (files name) (λ file. AreOfTower asked name file traces names found ⊎ IsOfFault name file names found)

-- the form that is asked for; that for people with as many findings of each code as are asked for
abbrev pub format_by : LintForm → ℕ → Format
format_by asked_forms.Human most = forms.Human most
format_by asked_forms.Short most = forms.Short
format_by asked_forms.GitHub most = forms.Github
format_by asked_forms.Json most = forms.Json

-- the text has the findings in the form that is asked for, and the status is that of their grades
pub record IsPrintedAsAsked (asked : AskedLint) (denied : List (Bor Text)) (names : List Text) (found : List TraceFindings) (text : List ℕ) (status : ℕ) : Type 0 where
  pub sources : List SourceText
  pub named : map (λ source. source.name.now) sources ≡ names
  pub short : asked.form ≡ asked_forms.Short → text ≡ short_text sources found
  pub status_is : status ≡ lint_status denied found

-- what `lint` did: what it found was written
pub record IsLooked (asked : AskedLint) (files : Text → Option (List ℕ)) (traces : List (List ℕ)) (status : ℕ) (old new : Option (List ℕ)) : Type 0 where
  pub names : List Text
  pub found : List TraceFindings
  pub findings : AreFoundBy asked.tower asked files traces names found
  pub denied : List (Bor Text)
  pub denied_are : AreDenied asked.denied (map (λ code. code.now) denied)
  pub text : List ℕ
  pub told : IsPrintedAsAsked asked denied names found text status
  pub written : Appends old new text
