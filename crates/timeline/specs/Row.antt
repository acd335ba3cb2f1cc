-- Where a picture that is too wide goes on in a new row.
use Rattle.std.specs.Prelude.{◌≡◌, ◌+◌, ◌-◌, ◌≤◌, ◌<◌, ◌⊎◌, ℕ, suc, List, Some, length, slice_index}
use Rattle.std.specs.List.{slice_get}

-- the row from the first mark up to the second, which is not in it, has one mark, or is at most this wide
abbrev pub FitsRow : List ℕ → ℕ → ℕ → ℕ → Type 0
FitsRow places width start end = (end ≡ start + 1) ⊎ (slice_index places (end - 1) ≤ slice_index places start + width)

-- the rows begin with these marks, from mark 0 on; each ends where the next begins, the last at the end; each `FitsRow`
pub record AreRowsUpTo (places : List ℕ) (width : ℕ) (starts : List ℕ) (end : ℕ) : Type 0 where
  pub first : (start : ℕ) → slice_get starts 0 ≡ Some start → start ≡ 0
  pub some : 0 < end → 0 < length starts
  pub next : (k start next : ℕ) → slice_get starts k ≡ Some start → slice_get starts (suc k) ≡ Some next → (start < next) × FitsRow places width start next
  pub last : (k start : ℕ) → slice_get starts k ≡ Some start → length starts ≡ suc k → (start < end) × FitsRow places width start end
