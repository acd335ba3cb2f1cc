-- At a status other than 2 no trace broke, and what was read is whole.
use Rattle.std.proofs.Common.{◌≡◌, ◌≢◌, ◌||◌, ℕ, not, subst, Bool, true, false, List, [], ◌∷◌, map, Option, Some, None, refl}
use Rattle.std.specs.Prelude.{is_some}
use Rattle.std.specs.List.{list_any}
use Rattle.logs.specs.declared.log.Broken.{Broken}
use Rattle.logs.specs.declared.log.Log.{Log}
use Rattle.feeders.specs.Readers.{AreReadOf, IsReadOf}
use Rattle.words.specs.Words.{AskedCheck}
use Rattle.report.specs.Summary.{is_broken}
use Rattle.command_parts.specs.Status.{failing_status, has_refused, status_by}
use Rattle.check_command.specs.Checked.{IsChecked}
use Rattle.check_command.specs.Verdict.{IsAudited}

none_broke : (failing : ℕ) (broken fails refused few : Bool) → status_by failing broken fails refused few ≢ 2 → broken ≡ false
none_broke failing true fails refused few other = absurd (other refl)
none_broke failing false fails refused few other = refl

one_whole : (all read : List ℕ) (broken : Option Broken) → is_some broken ≡ false → IsReadOf (Some all) broken read → read ≡ all
one_whole all read None whole is = is
one_whole all read (Some broken) whole is = cc

first_whole : (first rest : Bool) → (first || rest) ≡ false → (first ≡ false) × (rest ≡ false)
first_whole true rest none = cc
first_whole false rest none = (refl, none)

all_whole : (all read : List (List ℕ)) (logs : List Log) → list_any is_broken logs ≡ false → AreReadOf (map (λ trace. Some trace) all) logs read → read ≡ all
all_whole [] [] [] none are = refl
all_whole [] [] (log ∷ logs) none are = absurd are
all_whole [] (trace ∷ read) [] none are = absurd are
all_whole [] (trace ∷ read) (log ∷ logs) none are = absurd are
all_whole (first ∷ all) [] [] none are = absurd are
all_whole (first ∷ all) [] (log ∷ logs) none are = absurd are
all_whole (first ∷ all) (trace ∷ read) [] none are = absurd are
all_whole (first ∷ all) (trace ∷ read) (log ∷ logs) none are =
    let parts = first_whole (is_broken log) (list_any is_broken logs) none in
    let one : trace ≡ first = one_whole first trace log.broken parts.0 are.0 in
    let others : read ≡ all = all_whole all read logs parts.1 are.1 in
    cc

pub checked_whole : (asked : AskedCheck) (file : List ℕ) (traces : List (List ℕ)) (status : ℕ) (old new : Option (List ℕ)) → (is : IsChecked asked file traces status old new) → status ≢ 2 → is.read ≡ traces
checked_whole asked file traces status old new is other =
    let fails = is.status_is.fails in
    let broken : Bool = list_any is_broken is.logs in
    let refused : Bool = list_any has_refused is.logs in
    all_whole traces is.read is.logs (none_broke (failing_status asked.demand.doubt is.status_is.in_doubt) broken fails refused is.status_is.few (subst (λ (n : ℕ). n ≢ 2) is.status_is.status_is other)) is.are_read

pub audited_whole : (input : List ℕ) (status : ℕ) (old new : Option (List ℕ)) → (is : IsAudited input status old new) → status ≢ 2 → is.read ≡ input
audited_whole input status old new is other =
    one_whole input is.read is.broken (none_broke 1 (is_some is.broken) (not is.holds) is.refused false (subst (λ (n : ℕ). n ≢ 2) is.status_is other)) is.is_read
