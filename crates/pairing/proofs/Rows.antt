-- Rows of a place and a register whose places rise: what a binary search finds, and one more row.
use Rattle.std.proofs.Common.{◌≡◌, ◌≢◌, ℕ, zero, suc, ◌<◌, ◌≤◌, List, [], ◌∷◌, ◌++◌, length, get_or, Some, None, All, length-append, refl, sym, ap, inl, inr, arith}
use Rattle.std.specs.List.{HoldsAt}
use Rattle.std.specs.List.Sorted.{IsNonDecreasingBy, IsPartitionPoint}
use Rattle.std.specs.declared.cmp.Ordering.TheVariants.{Less, Equal, Greater}
use Rattle.std.specs.Ordering.{nat_cmp, ordering_index}
use Rattle.std.proofs.lemmas.Bool.{cases_lt}
use Rattle.std.proofs.lemmas.Cmp.{ranked}
use Rattle.std.proofs.Math.Seq.{get_or-append_seam}
use Rattle.std.proofs.lemmas.List.{get_or_append_left}
use Rattle.std.proofs.lemmas.List.Sorted.{IsNonDecreasingBy-from_default}
use Rattle.std.proofs.lemmas.Bool.Decides.{nat_tests}
use Rattle.intervals.specs.declared.operation.RegId.{RegId}
use Rattle.pairing.specs.Known.{register_at}
use Rattle.pairing.specs.Registers.{row_place, IsRising}

-- the row that is read past the end
abbrev pub no_row : ℕ × RegId
no_row = (0, record { 0 = 0 })

-- along the rows, the comparison of their places with one place only rises
comparisons_rise : (rows : List (ℕ × RegId)) → IsRising rows → (place : ℕ) → IsNonDecreasingBy (λ row. ordering_index (nat_cmp row.0 place)) rows
comparisons_rise rows rising place = IsNonDecreasingBy-from_default (λ row. ordering_index (nat_cmp row.0 place)) rows no_row (λ i j le lt.
    let not_less : row_place rows i ≤ row_place rows j = grind (arith, rising i j, λ (same : i ≡ j). ap (row_place rows) same) in
    grind (arith, nat_tests))

-- a place that no row has is not found
absent : (rows : List (ℕ × RegId)) (place : ℕ) → ((j : ℕ) → j < length rows → row_place rows j ≢ place) → register_at rows place ≡ None
absent [] place none = refl
absent (row ∷ rows) place none =
    let rest = absent rows place (λ j lt. none (suc j) (omega arith)) in
    grind (arith, nat_tests, none 0 (omega arith), rest)

-- the first row of a place gives the register
first : (rows : List (ℕ × RegId)) (place i : ℕ) → i < length rows → row_place rows i ≡ place → ((j : ℕ) → j < i → row_place rows j ≢ place) → register_at rows place ≡ Some (get_or rows i no_row).1
first [] place i lt is none = absurd (omega arith)
first (row ∷ rows) place zero lt is none = grind (arith, nat_tests, is)
first (row ∷ rows) place (suc i) lt is none =
    let rest = first rows place i (omega arith) is (λ j below. none (suc j) (omega arith)) in
    grind (arith, nat_tests, none 0 (omega arith), rest)

-- where a binary search found a row, that row gives the register of the place
pub found_row : (rows : List (ℕ × RegId)) → IsRising rows → (place i : ℕ) → i < length rows → HoldsAt (λ row. nat_cmp row.0 place ≡ Equal) rows i → register_at rows place ≡ Some (get_or rows i no_row).1
found_row rows rising place i lt equal =
    let is : row_place rows i ≡ place = ranked _ place _ (sym (equal no_row)) in
    first rows place i lt is (λ j below same. omega (arith, rising j i below lt))

-- where a binary search found no row, the place has no register
pub no_row_found : (rows : List (ℕ × RegId)) → IsRising rows → (place i : ℕ) → i ≤ length rows → (IsNonDecreasingBy (λ row. ordering_index (nat_cmp row.0 place)) rows → IsPartitionPoint (λ row. nat_cmp row.0 place ≡ Less) (λ row. nat_cmp row.0 place ≡ Greater) rows i) → register_at rows place ≡ None
no_row_found rows rising place i le parted =
    let parts = parted (comparisons_rise rows rising place) in
    absent rows place (λ j lt same. elim (cases_lt j i) [
      | inl below ↦ let less : row_place rows j < place = ranked _ place _ (sym (parts.0 j no_row (omega arith) below)) in omega arith
      | inr above ↦ let greater : place < row_place rows j = ranked _ place _ (sym (parts.1 j no_row above lt)) in omega arith
    ])

-- rising rows go on rising with a row of a greater place
pub rises_push : (rows : List (ℕ × RegId)) (row : ℕ × RegId) → IsRising rows → All (λ other. other.0 < row.0) rows → IsRising (rows ++ row ∷ [])
rises_push rows row rising lower i j lt in_range =
    let whole = length-append rows (row ∷ []) in
    let below : (k : ℕ) → k < length rows → row_place (rows ++ row ∷ []) k ≡ row_place rows k = λ k within. ap (λ (r : ℕ × RegId). r.0) (get_or_append_left rows (row ∷ []) no_row k within) in
    let here : (k : ℕ) → k ≡ length rows → row_place (rows ++ row ∷ []) k ≡ row.0 = λ k is. rw is (ap (λ (r : ℕ × RegId). r.0) (get_or-append_seam rows row [] no_row)) in
    grind (arith, whole, below i, below j, here j, rising i j, lower i no_row)
