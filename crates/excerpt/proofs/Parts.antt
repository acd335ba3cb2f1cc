-- The events of registers, one register after another.
use Rattle.std.proofs.Common.{◌≡◌, ◌<◌, ◌≤◌, ◌+◌, ℕ, zero, suc, List, [], ◌∷◌, ◌++◌, drop, get_or, length, refl, subst, sym, arith, append_assoc}
use Rattle.std.proofs.Math.Seq.{drop-cons}
use Rattle.std.proofs.lemmas.List.{append-nil}
use Rattle.std.specs.List.{slice_get}
use Rattle.jepsen_form.specs.declared.item.MomentField.{MomentField}
use Rattle.tower_file.specs.Contents.{TowerModel}
use Rattle.shards.specs.Closing.{ClosedShard, book_of}
use Rattle.report.specs.declared.finding.Finding.{Finding}
use Rattle.excerpt.specs.Excerpt.{AreParts, IsPartIn}

-- the events of one more register
pub one_more_part : (field : MomentField) (tower : TowerModel) (closed : List ClosedShard) (findings : List Finding) (n : ℕ) (d : Finding) (text part after : List ℕ) → n < length findings
    → IsPartIn field (slice_get tower.registers n) (book_of closed n) (get_or findings n d) part → after ≡ text ++ part
    → ((rest : List ℕ) → AreParts field tower closed n (drop n findings) rest → AreParts field tower closed 0 findings (text ++ rest))
    → (rest : List ℕ) → AreParts field tower closed (n + 1) (drop (n + 1) findings) rest → AreParts field tower closed 0 findings (after ++ rest)
one_more_part field tower closed findings n d text part after within is after_is so_far rest later =
    let left : drop n findings ≡ get_or findings n d ∷ drop (suc n) findings = drop-cons findings n d within in
    let next : n + 1 ≡ suc n = omega arith in
    let more : AreParts field tower closed (n + 1) (drop (suc n) findings) rest = subst (λ (k : ℕ). AreParts field tower closed (n + 1) (drop k findings) rest) next later in
    let all : AreParts field tower closed n (drop n findings) (part ++ rest) = subst (λ (findings : List Finding). AreParts field tower closed n findings (part ++ rest)) (sym left) (part, rest, is, more, refl) in
    rw (after_is, append_assoc text part rest) (so_far (part ++ rest) all)

none_left : (n : ℕ) (findings : List Finding) → length findings ≤ n → drop n findings ≡ []
none_left zero [] past = refl
none_left (suc n) [] past = refl
none_left zero (finding ∷ findings) past = absurd (omega (arith, past))
none_left (suc n) (finding ∷ findings) past = none_left n findings (omega (arith, past))

-- the events of all registers
pub all_parts : (field : MomentField) (tower : TowerModel) (closed : List ClosedShard) (findings : List Finding) (n : ℕ) (text : List ℕ) → length findings ≤ n
    → ((rest : List ℕ) → AreParts field tower closed n (drop n findings) rest → AreParts field tower closed 0 findings (text ++ rest)) → AreParts field tower closed 0 findings text
all_parts field tower closed findings n text past so_far =
    subst (λ (text : List ℕ). AreParts field tower closed 0 findings text) (append-nil text)
    (so_far [] (subst (λ (findings : List Finding). AreParts field tower closed n findings []) (sym (none_left n findings past)) refl))
