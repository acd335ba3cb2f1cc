-- What `lint` finds: nothing of no traces, and one list of findings for each trace.
use Rattle.std.proofs.Common.{◌≡◌, ◌⊎◌, ℕ, List, [], ◌∷◌, Option, Some, None, Result, Ok, Err, IfOk, length, map, ap, subst, sym, arith, refl, ◌∙◌}
use Rattle.std.specs.Prelude.{IfSome, option_map}
use Rattle.std.specs.Borrow.{Bor}
use Rattle.jepsen_form.specs.declared.item.MomentField.{MomentField}
use Rattle.tower_file.specs.Contents.{TowerModel}
use Rattle.tower_file.specs.Tower.{IsTowerOf}
use Rattle.command_parts.specs.Tower.{OfNames}
use Rattle.shards.specs.Closing.{ClosedShard}
use Rattle.logs.specs.declared.log.Log.{Log}
use Rattle.feeders.specs.Readers.{AreReadOf}
use Rattle.logs.specs.Run.{IsRun}
use Rattle.lint.specs.declared.finding.TraceFindings.{TraceFindings}
use Rattle.lint.specs.Found.{AreFoundIn}
use Rattle.clap.specs.Words.{Text}
use Rattle.intervals.specs.declared.claim.Kind.{Kind}
use Rattle.words.specs.declared.tower.TowerWord.{TowerWord}
use Rattle.words.specs.declared.tower.TowerWord.TheVariants as words
use Rattle.words.specs.Words.{AskedLint, AskedTower, OfFile, OfTraces, asked_tower, file_of}
use Rattle.lint_command.specs.Looked.{AreFindingsOfRun, AreFoundBy, AreOfNames, AreOfTower, IsOfFault, IsPrintedAsAsked}

pub none_found : (tower : TowerModel) (field : MomentField) (slices : List (Bor (List ℕ))) (found : List TraceFindings) → length slices ≡ 0 → found ≡ [] → AreFindingsOfRun tower field (map (λ slice. slice.now) slices) found
none_found tower field [] found none is = rw is (record { closed = []; logs = []; read = []; read_is = tt; run = λ some. absurd (omega (arith, some)); are = tt })
none_found tower field (slice ∷ slices) found none is = absurd (omega (arith, none))

each_known : (slices : List (Bor (List ℕ))) → map (λ slice. Some slice.now) slices ≡ map (λ trace. Some trace) (map (λ slice. slice.now) slices)
each_known [] = refl
each_known (slice ∷ slices) = ap (λ (known : List (Option (List ℕ))). Some slice.now ∷ known) (each_known slices)

pub found_by : (tower : TowerModel) (field : MomentField) (slices : List (Bor (List ℕ))) (closed : List ClosedShard) (logs : List Log) (read : List (List ℕ)) (found : List TraceFindings)
    → AreReadOf (map (λ slice. Some slice.now) slices) logs read → IsRun tower field 1 read closed logs → AreFoundIn (map (λ slice. slice.now) slices) logs found
    → AreFindingsOfRun tower field (map (λ slice. slice.now) slices) found
found_by tower field slices closed logs read found are_read run are = record {
  closed = closed;
  logs = logs;
  read = read;
  read_is = subst (λ (known : List (Option (List ℕ))). AreReadOf known logs read) (each_known slices) are_read;
  run = λ some. run;
  are = are;
}

pub as_many_found : (texts : List (List ℕ)) (logs : List Log) (found : List TraceFindings) → AreFoundIn texts logs found → length found ≡ length texts
as_many_found [] [] [] are = refl
as_many_found [] [] (one ∷ found) are = absurd are
as_many_found [] (log ∷ logs) [] are = absurd are
as_many_found [] (log ∷ logs) (one ∷ found) are = absurd are
as_many_found (text ∷ texts) [] [] are = absurd are
as_many_found (text ∷ texts) [] (one ∷ found) are = absurd are
as_many_found (text ∷ texts) (log ∷ logs) [] are = absurd are
as_many_found (text ∷ texts) (log ∷ logs) (one ∷ found) are = omega (arith, as_many_found texts logs found are.1)

-- what holds of a call's result
pub answered : {V E : Type 0} {P Q : V → Type 0} (result : Result V E) → ((value : V) → P value → Q value) → IfOk result P → IfOk result Q
answered (Ok value) follows holds = follows value holds
answered (Err fault) follows holds = tt

-- what was found, and how it is printed
abbrev pub HasLooked : AskedLint → (Text → Option (List ℕ)) → List (List ℕ) → List (Bor Text) → List ℕ → ℕ → Type 0
HasLooked asked files traces denied text status = (names : List Text) × (found : List TraceFindings) × AreFoundBy asked.tower asked files traces names found × IsPrintedAsAsked asked denied names found text status

-- what is found by the tower of what the traces name
pub found_named : (kind : Kind) (field : MomentField) (traces : List (List ℕ)) (tower : TowerModel) (found : List TraceFindings) → OfNames kind traces (λ file. IsTowerOf file tower) → AreFindingsOfRun tower field traces found
    → AreOfNames kind field traces found
found_named kind field traces tower found named are = (named.0, named.1, named.2, (tower, named.3, are))

pub looked_named : (asked : AskedLint) (files : Text → Option (List ℕ)) (traces slices : List (List ℕ)) (denied : List (Bor Text)) (kind : Kind) (found : List TraceFindings) (text : List ℕ) (status : ℕ)
    → asked.tower ≡ OfTraces kind → slices ≡ traces → AreOfNames kind asked.moments slices found → IsPrintedAsAsked asked denied asked.traces found text status → HasLooked asked files traces denied text status
looked_named asked files traces slices denied kind found text status each same are told = (
  asked.traces,
  found,
  subst (λ (tower : AskedTower). AreFoundBy tower asked files traces asked.traces found) (sym each)
      (subst (λ (texts : List (List ℕ)). AreOfNames kind asked.moments texts found) same are, refl),
  told,
)

of_known : (held : Option (List ℕ)) (file : List ℕ) (P : List ℕ → Type 0) → IfSome held (λ known. file ≡ known) → P file → IfSome held P
of_known None file P is holds = tt
of_known (Some known) file P is holds = subst P is holds

pub looked_by : (asked : AskedLint) (files : Text → Option (List ℕ)) (traces slices : List (List ℕ)) (denied : List (Bor Text)) (name : Text) (file : List ℕ) (names : List Text) (found : List TraceFindings) (text : List ℕ) (status : ℕ)
    → asked.tower ≡ OfFile name → IfSome (files name) (λ known. file ≡ known) → slices ≡ traces → AreOfTower asked name file slices names found ⊎ IsOfFault name file names found
    → IsPrintedAsAsked asked denied names found text status → HasLooked asked files traces denied text status
looked_by asked files traces slices denied name file names found text status named held same are told = (
  names,
  found,
  subst (λ (tower : AskedTower). AreFoundBy tower asked files traces names found) (sym named)
      (of_known (files name) file (λ known. AreOfTower asked name known traces names found ⊎ IsOfFault name known names found) held
      (subst (λ (texts : List (List ℕ)). AreOfTower asked name file texts names found ⊎ IsOfFault name file names found) same are)),
  told,
)

-- the bytes that were read of the tower file that is asked for
pub held_file : (files : Text → Option (List ℕ)) (tower : TowerWord) (name : Bor Text) (file : Option (Bor Text)) (bytes : List ℕ) → tower ≡ words.File name → option_map (λ name. name.now) file ≡ file_of (asked_tower tower)
    → IfSome file (λ name. IfSome (files name.now) (λ known. bytes ≡ known)) → IfSome (files name.now) (λ known. bytes ≡ known)
held_file files tower name None bytes is named held = absurd (no_name (named ∙ ap (λ (word : TowerWord). file_of (asked_tower word)) is))
  where
    no_name : None ≡ Some name.now → ⊥
    no_name e = absurd cc
held_file files tower name (Some found) bytes is named held =
    let same : found.now ≡ name.now = the_name (named ∙ ap (λ (word : TowerWord). file_of (asked_tower word)) is) in
    subst (λ (text : Text). IfSome (files text) (λ known. bytes ≡ known)) same held
  where
    the_name : Some found.now ≡ Some name.now → found.now ≡ name.now
    the_name e = cc
