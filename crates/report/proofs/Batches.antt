-- Batches put end to end are a batch.
use Rattle.std.proofs.Common.{◌≡◌, ◌∙◌, ℕ, zero, suc, ◌+◌, Bool, List, [], ◌∷◌, ◌++◌, length, drop, Some, refl, sym, ap, subst, arith, string_bytes}
use Rattle.std.proofs.lemmas.List.{append_assoc, append-nil, drop-drop}
use Rattle.std.specs.Prelude.{is_some, IfOk}
use Rattle.std.specs.Option.{option_map_or}
use Rattle.std.proofs.lemmas.Option.{none-some, same_Some}
use Rattle.std.specs.List.{AllZip, range_with_len, slice_get}
use Rattle.std.specs.declared.alloc.AllocError.{AllocError}
use Rattle.std.specs.declared.result.Result.{Result}
use Rattle.tower_file.specs.Contents.{TowerModel, Register}
use Rattle.shards.specs.Closing.{ClosedShard, book_of}
use Rattle.report.specs.declared.finding.Finding.{Finding}
use Rattle.report.specs.declared.batch.Batch.{Batch}
use Rattle.report.specs.Finding.{AreFailing, IsFindingOf}
use Rattle.report.specs.Section.{section_text, sections_text}
use Rattle.report.specs.Batch.{AreBatches, IsBatch, IsBatchOf}
use Rattle.report.proofs.Found.{one_failing, failing_joined}

section_at : (registers : List Register) (number : ℕ) (finding : Finding) → option_map_or (λ register. section_text register finding) (slice_get registers number) [] ≡ sections_text (drop number registers) (finding ∷ [])
section_at [] zero finding = refl
section_at [] (suc number) finding = refl
section_at (register ∷ []) zero finding = sym (append-nil (section_text register finding))
section_at (register ∷ next ∷ registers) zero finding = sym (append-nil (section_text register finding))
section_at (register ∷ registers) (suc number) finding = section_at registers number finding

of_none : (count : ℕ) (findings : List Finding) → sections_text (drop count []) findings ≡ []
of_none zero findings = refl
of_none (suc count) findings = refl

of_nothing : (registers : List Register) → sections_text registers [] ≡ []
of_nothing [] = refl
of_nothing (register ∷ registers) = refl

sections_joined : (registers : List Register) (findings more : List Finding) → sections_text registers (findings ++ more) ≡ sections_text registers findings ++ sections_text (drop (length findings) registers) more
sections_joined [] findings more = sym (of_none (length findings) more)
sections_joined (register ∷ registers) [] more = refl
sections_joined (register ∷ registers) (finding ∷ findings) more =
    ap (λ (rest : List ℕ). section_text register finding ++ rest) (sections_joined registers findings more)
    ∙ sym (append_assoc (section_text register finding) (sections_text registers findings) (sections_text (drop (length findings) registers) more))

joined : (tower : TowerModel) (closed : List ClosedShard) (first middle last : ℕ) (old new : Batch) (text : List ℕ) (fails : List Bool) → (are : AreFailing closed middle last fails) → text ≡ sections_text (drop middle tower.registers) are.findings → string_bytes new.text ≡ string_bytes old.text ++ text → new.failing.items ≡ old.failing.items ++ fails → IsBatch tower closed first middle old → IsBatch tower closed first last new
joined tower closed first middle last old new text fails are text_is grown more so_far =
    let findings = so_far.failing.findings in
    let all = failing_joined closed first middle last old.failing.items fails so_far.failing are in
    let rest : drop (length findings) (drop first tower.registers) ≡ drop middle tower.registers =
    drop-drop (length findings) first tower.registers ∙ ap (λ (n : ℕ). drop n tower.registers) so_far.failing.many in
    record {
      failing = record { findings = all.findings; many = all.many; found = all.found; fails_are = more ∙ all.fails_are };
      text_is = grown
          ∙ (λ i. so_far.text_is i ++ text_is i)
          ∙ sym (sections_joined (drop first tower.registers) findings are.findings ∙ ap (λ (left : List Register). sections_text (drop first tower.registers) findings ++ sections_text left are.findings) rest);
    }

-- no registers
pub no_registers : (tower : TowerModel) (closed : List ClosedShard) (first : ℕ) (batch : Batch) → string_bytes batch.text ≡ [] → batch.failing.items ≡ [] → IsBatch tower closed first first batch
no_registers tower closed first batch text failing = record {
  failing = record { findings = []; many = omega arith; found = tt; fails_are = failing };
  text_is = text ∙ sym (of_nothing (drop first tower.registers));
}

-- one register more
pub one_more : (tower : TowerModel) (closed : List ClosedShard) (first number : ℕ) (finding : Finding) (old new : Batch) → IsFindingOf (book_of closed number) finding → string_bytes new.text ≡ string_bytes old.text ++ option_map_or (λ register. section_text register finding) (slice_get tower.registers number) [] → new.failing.items ≡ old.failing.items ++ is_some finding.witness ∷ [] → IsBatch tower closed first number old → IsBatch tower closed first (number + 1) new
one_more tower closed first number finding old new is grown more so_far =
    joined tower closed first number (number + 1) old new (option_map_or (λ register. section_text register finding) (slice_get tower.registers number) []) (is_some finding.witness ∷ []) (one_failing closed number finding is) (section_at tower.registers number finding) grown more so_far

-- one batch more
pub next_batch : (old batch new : Batch) → string_bytes new.text ≡ string_bytes old.text ++ string_bytes batch.text → new.failing.items ≡ old.failing.items ++ batch.failing.items → (tower : TowerModel) (closed : List ClosedShard) (first middle last : ℕ) → IsBatch tower closed first middle old → IsBatch tower closed middle last batch → IsBatch tower closed first last new
next_batch old batch new grown more tower closed first middle last so_far is =
    joined tower closed first middle last old new (string_bytes batch.text) batch.failing.items is.failing is.text_is grown more so_far

-- batches by their numbers
are_batches : (tower : TowerModel) (closed : List ClosedShard) (number count : ℕ) (batches : List (Result Batch AllocError)) → AllZip (λ k batch. IfOk batch (IsBatchOf tower closed k)) (range_with_len number count) batches → (length batches ≡ count) × AreBatches tower closed number batches
are_batches tower closed number zero [] each = (refl, tt)
are_batches tower closed number zero (batch ∷ batches) each = absurd each
are_batches tower closed number (suc count) [] each = absurd each
are_batches tower closed number (suc count) (batch ∷ batches) each =
    let rest = are_batches tower closed (number + 1) count batches each.1 in
    (ap suc rest.0, (each.0, rest.1))

-- the batches by their numbers, where the parts of the statement are known by equations
pub zipped : (tower lent : TowerModel) (closed held : List ClosedShard) (count : ℕ) (numbers : List ℕ) (batches items : List (Result Batch AllocError)) → lent ≡ tower → held ≡ closed → numbers ≡ range_with_len 0 count → items ≡ batches → AllZip (λ k batch. IfOk batch (IsBatchOf lent held k)) numbers batches → (length items ≡ count) × AreBatches tower closed 0 items
zipped tower lent closed held count numbers batches items is_tower is_closed are_numbers are_items each =
    let zip : AllZip (λ k batch. IfOk batch (IsBatchOf lent held k)) (range_with_len 0 count) items =
    subst (λ (xs : List ℕ). AllZip (λ k batch. IfOk batch (IsBatchOf lent held k)) xs items) are_numbers (subst (λ (ys : List (Result Batch AllocError)). AllZip (λ k batch. IfOk batch (IsBatchOf lent held k)) numbers ys) (sym are_items) each) in
    let are = are_batches lent held 0 count items zip in
    (are.0, subst (λ (t : TowerModel). AreBatches t closed 0 items) is_tower (subst (λ (e : List ClosedShard). AreBatches lent e 0 items) is_closed are.1))

pub batch_at : (tower : TowerModel) (closed : List ClosedShard) (first k number : ℕ) (batches : List (Result Batch AllocError)) (batch : Result Batch AllocError) → number ≡ first + k → AreBatches tower closed first batches → slice_get batches k ≡ Some batch → IfOk batch (IsBatchOf tower closed number)
batch_at tower closed first k number [] batch at are is = absurd (none-some batch is)
batch_at tower closed first zero number (head ∷ batches) batch at are is =
    let here : number ≡ first = omega arith in
    subst (λ (x : Result Batch AllocError). IfOk x (IsBatchOf tower closed number)) (same_Some head batch is) (subst (λ (n : ℕ). IfOk head (IsBatchOf tower closed n)) (sym here) are.0)
batch_at tower closed first (suc k) number (head ∷ batches) batch at are is = batch_at tower closed (first + 1) k number batches batch (omega arith) are.1 is
