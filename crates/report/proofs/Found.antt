-- What is found of the registers, by number; a run leaves a book for each.
use Rattle.std.proofs.Common.{◌≡◌, ◌∙◌, ◌≤◌, ◌<◌, ◌%◌, ℕ, zero, suc, ◌+◌, Bool, true, false, List, [], ◌∷◌, ◌++◌, length, Option, Some, None, refl, sym, ap, subst, arith}
use Rattle.std.proofs.lemmas.Bool.{true≢false, false≢true}
use Rattle.std.proofs.lemmas.List.{length-append, map-append}
use Rattle.std.proofs.lemmas.Option.{none-some, same_Some, slice_get_past, slice_get-map}
use Rattle.std.specs.Prelude.{IsSomeAnd, IsSome, option_map, is_some, is_none, not}
use Rattle.std.specs.Option.{option_map_or}
use Rattle.std.specs.List.{slice_get}
use Rattle.intervals.specs.Terms.{RegisterState}
use Rattle.intervals.specs.Kind.{Holds}
use Rattle.tower_file.specs.Contents.{TowerModel, Register}
use Rattle.jepsen_form.specs.declared.item.MomentField.{MomentField}
use Rattle.shards.specs.declared.entry.Entry.{Entry}
use Rattle.shards.specs.Journal.{left_by}
use Rattle.shards.specs.Closing.{ClosedShard, book_of, journal_of}
use Rattle.logs.specs.declared.log.Log.{Log}
use Rattle.logs.specs.Run.{IsRun}
use Rattle.report.specs.declared.finding.Finding.{Finding}
use Rattle.report.specs.Finding.{AreFailing, AreFindings, IsFindingOf, IsOfTower, fails_of, fails_in, holds_in}
use Rattle.report.specs.Culprit.{RegisterHolds, Fails}

nothing_there : (X : Type 0) (o : Option X) → is_some o ≡ false → o ≡ None
nothing_there X None is = refl
nothing_there X (Some x) is = absurd (true≢false is)

-- there is no book past the registers
past_all : (tower : TowerModel) (closed : List ClosedShard) (number : ℕ) → IsOfTower tower closed → length tower.registers ≤ number → book_of closed number ≡ None
past_all tower closed number of_tower past =
    nothing_there RegisterState (book_of closed number) (of_tower number ∙ ap (λ (found : Option Register). is_some found) (slice_get_past tower.registers number past))

some_register : (registers : List Register) (number : ℕ) → number < length registers → is_some (slice_get registers number) ≡ true
some_register [] number within = absurd (omega arith)
some_register (register ∷ registers) zero within = refl
some_register (register ∷ registers) (suc number) within = some_register registers number (omega arith)

-- a register of the tower has a book
pub has_book : (tower : TowerModel) (closed : List ClosedShard) (number : ℕ) → IsOfTower tower closed → number < length tower.registers → IsSome (book_of closed number)
has_book tower closed number of_tower within = of_tower number ∙ some_register tower.registers number within

-- a run leaves a book for each register of its tower
pub run_of_tower : (tower : TowerModel) (chosen : MomentField) (shards : ℕ) (traces : List (List ℕ)) (closed : List ClosedShard) (logs : List Log) → IsRun tower chosen shards traces closed logs → IsOfTower tower closed
run_of_tower tower chosen shards traces closed logs run number =
    let journal : List Entry = journal_of closed (number % shards) in
    ap is_some (run.finished.books number ∙ ap (option_map (left_by journal number)) (slice_get-map (λ register. register.claim) tower.registers number))
    ∙ by_register journal (slice_get tower.registers number)
  where
    by_register : (journal : List Entry) (found : Option Register) → is_some (option_map (left_by journal number) (option_map (λ (register : Register). register.claim) found)) ≡ is_some found
    by_register journal None = refl
    by_register journal (Some register) = refl

finding_at : (closed : List ClosedShard) (first : ℕ) (findings : List Finding) (k number : ℕ) (finding : Finding) → number ≡ first + k → AreFindings closed first findings → slice_get findings k ≡ Some finding → IsFindingOf (book_of closed number) finding
finding_at closed first [] k number finding at found is = absurd (none-some finding is)
finding_at closed first (head ∷ findings) zero number finding at found is =
    let here : number ≡ first = omega arith in
    subst (λ (x : Finding). IsFindingOf (book_of closed number) x) (same_Some head finding is) (subst (λ (n : ℕ). IsFindingOf (book_of closed n) head) (sym here) found.0)
finding_at closed first (head ∷ findings) (suc k) number finding at found is = finding_at closed (first + 1) findings k number finding (omega arith) found.1 is

pub found_joined : (closed : List ClosedShard) (first middle : ℕ) (findings more : List Finding) → first + length findings ≡ middle → AreFindings closed first findings → AreFindings closed middle more → AreFindings closed first (findings ++ more)
found_joined closed first middle [] more many found rest =
    let here : middle ≡ first = omega arith in
    subst (λ (n : ℕ). AreFindings closed n more) here rest
found_joined closed first middle (head ∷ findings) more many found rest =
    (found.0, found_joined closed (first + 1) middle findings more (omega arith) found.1 rest)

-- which fail, of one register
abbrev pub one_failing : (closed : List ClosedShard) (number : ℕ) (finding : Finding) → IsFindingOf (book_of closed number) finding → AreFailing closed number (number + 1) (is_some finding.witness ∷ [])
one_failing closed number finding is = record { findings = finding ∷ []; many = omega arith; found = (is, tt); fails_are = refl }

-- which fail, of registers and of those that come next
abbrev pub failing_joined : (closed : List ClosedShard) (first middle last : ℕ) (fails more : List Bool) → AreFailing closed first middle fails → AreFailing closed middle last more → AreFailing closed first last (fails ++ more)
failing_joined closed first middle last fails more are rest = record {
  findings = are.findings ++ rest.findings;
  many = omega (arith, are.many, rest.many, length-append are.findings rest.findings);
  found = found_joined closed first middle are.findings rest.findings are.many are.found rest.found;
  fails_are = (λ i. are.fails_are i ++ rest.fails_are i) ∙ sym (map-append (λ (finding : Finding). is_some finding.witness) are.findings rest.findings);
}

-- which fail, with one register more
pub found_more : (closed : List ClosedShard) (number : ℕ) (finding : Finding) (old new : List Finding) → IsFindingOf (book_of closed number) finding → new ≡ old ++ finding ∷ [] → length old ≡ number → AreFindings closed 0 old → AreFindings closed 0 new
found_more closed number finding old new is more many so_far =
    subst (λ (findings : List Finding). AreFindings closed 0 findings) (sym more) (found_joined closed 0 number old (finding ∷ []) (omega (arith, many)) so_far (is, tt))

-- whether a register fails or holds, by its finding and by its book

not_false : (b : Bool) → (b ≡ false → ⊥) → b ≡ true
not_false true never = refl
not_false false never = absurd (never refl)

not_is : (b : Bool) → not b ≡ true → b ≡ false
not_is true is = sym is
not_is false is = refl

fails_from : (book : Option RegisterState) (finding : Finding) → IsFindingOf book finding → is_some finding.witness ≡ true → IsSomeAnd book (λ held. ¬ Holds held)
fails_from None finding is some = is
fails_from (Some held) finding is some = λ holds. true≢false (sym some ∙ is.none.1 holds)

fails_to : (book : Option RegisterState) (finding : Finding) → IsFindingOf book finding → IsSomeAnd book (λ held. ¬ Holds held) → is_some finding.witness ≡ true
fails_to None finding is fails = absurd is
fails_to (Some held) finding is fails = not_false (is_some finding.witness) (λ none. fails (is.none.0 none))

holds_from : (book : Option RegisterState) (finding : Finding) → IsFindingOf book finding → is_none finding.witness ≡ true → IsSomeAnd book Holds
holds_from None finding is none = is
holds_from (Some held) finding is none = is.none.0 (not_is (is_some finding.witness) none)

holds_to : (book : Option RegisterState) (finding : Finding) → IsFindingOf book finding → IsSomeAnd book Holds → is_none finding.witness ≡ true
holds_to None finding is holds = absurd is
holds_to (Some held) finding is holds = ap not (is.none.1 holds)

-- a book that is there has a finding, where there is one for each register

nothing_past : (findings : List Finding) (number : ℕ) → slice_get findings number ≡ None → length findings ≤ number
nothing_past [] number is = omega arith
nothing_past (finding ∷ findings) zero is = absurd (none-some finding (sym is))
nothing_past (finding ∷ findings) (suc number) is =
    let past : length findings ≤ number = nothing_past findings number is in
    omega arith

fails_found : (findings : List Finding) (number : ℕ) → fails_in (fails_of findings) number ≡ option_map_or (λ (finding : Finding). is_some finding.witness) (slice_get findings number) false
fails_found [] number = refl
fails_found (finding ∷ findings) zero = refl
fails_found (finding ∷ findings) (suc number) = fails_found findings number

holds_found : (findings : List Finding) (number : ℕ) → holds_in (fails_of findings) number ≡ option_map_or (λ (finding : Finding). is_none finding.witness) (slice_get findings number) false
holds_found [] number = refl
holds_found (finding ∷ findings) zero = refl
holds_found (finding ∷ findings) (suc number) = holds_found findings number

pub fails_by : (closed : List ClosedShard) (findings : List Finding) (number : ℕ) → AreFindings closed 0 findings → fails_in (fails_of findings) number ≡ true → Fails closed number
fails_by closed findings number found is =
    let by : (found_there : Option Finding) → slice_get findings number ≡ found_there → option_map_or (λ (finding : Finding). is_some finding.witness) found_there false ≡ true → Fails closed number =
    λ found_there. elim found_there as (λ (o : Option Finding). slice_get findings number ≡ o → option_map_or (λ (finding : Finding). is_some finding.witness) o false ≡ true → Fails closed number) [
      | None ↦ λ at some. absurd (false≢true some)
      | Some finding ↦ λ at some. fails_from (book_of closed number) finding (finding_at closed 0 findings number number finding (omega arith) found at) some
    ] in
    by (slice_get findings number) refl (sym (fails_found findings number) ∙ is)

pub holds_by : (closed : List ClosedShard) (findings : List Finding) (number : ℕ) → AreFindings closed 0 findings → holds_in (fails_of findings) number ≡ true → RegisterHolds closed number
holds_by closed findings number found is =
    let by : (found_there : Option Finding) → slice_get findings number ≡ found_there → option_map_or (λ (finding : Finding). is_none finding.witness) found_there false ≡ true → RegisterHolds closed number =
    λ found_there. elim found_there as (λ (o : Option Finding). slice_get findings number ≡ o → option_map_or (λ (finding : Finding). is_none finding.witness) o false ≡ true → RegisterHolds closed number) [
      | None ↦ λ at some. absurd (false≢true some)
      | Some finding ↦ λ at some. holds_from (book_of closed number) finding (finding_at closed 0 findings number number finding (omega arith) found at) some
    ] in
    by (slice_get findings number) refl (sym (holds_found findings number) ∙ is)

pub by_fails : (tower : TowerModel) (closed : List ClosedShard) (findings : List Finding) (number : ℕ) → IsOfTower tower closed → length findings ≡ length tower.registers → AreFindings closed 0 findings → Fails closed number → fails_in (fails_of findings) number ≡ true
by_fails tower closed findings number of_tower many found fails =
    let by : (found_there : Option Finding) → slice_get findings number ≡ found_there → option_map_or (λ (finding : Finding). is_some finding.witness) found_there false ≡ true =
    λ found_there. elim found_there as (λ (o : Option Finding). slice_get findings number ≡ o → option_map_or (λ (finding : Finding). is_some finding.witness) o false ≡ true) [
      | None ↦ λ at.
          let past : length findings ≤ number = nothing_past findings number at in
          absurd (subst (λ (book : Option RegisterState). IsSomeAnd book (λ held. ¬ Holds held)) (past_all tower closed number of_tower (omega arith)) fails)
      | Some finding ↦ λ at. fails_to (book_of closed number) finding (finding_at closed 0 findings number number finding (omega arith) found at) fails
    ] in
    fails_found findings number ∙ by (slice_get findings number) refl

pub by_holds : (tower : TowerModel) (closed : List ClosedShard) (findings : List Finding) (number : ℕ) → IsOfTower tower closed → length findings ≡ length tower.registers → AreFindings closed 0 findings → RegisterHolds closed number → holds_in (fails_of findings) number ≡ true
by_holds tower closed findings number of_tower many found keeps =
    let by : (found_there : Option Finding) → slice_get findings number ≡ found_there → option_map_or (λ (finding : Finding). is_none finding.witness) found_there false ≡ true =
    λ found_there. elim found_there as (λ (o : Option Finding). slice_get findings number ≡ o → option_map_or (λ (finding : Finding). is_none finding.witness) o false ≡ true) [
      | None ↦ λ at.
          let past : length findings ≤ number = nothing_past findings number at in
          absurd (subst (λ (book : Option RegisterState). IsSomeAnd book Holds) (past_all tower closed number of_tower (omega arith)) keeps)
      | Some finding ↦ λ at. holds_to (book_of closed number) finding (finding_at closed 0 findings number number finding (omega arith) found at) keeps
    ] in
    holds_found findings number ∙ by (slice_get findings number) refl
