-- How far right each mark is, by the distances that are wanted between marks.
use Rattle.std.specs.Prelude.{◌≡◌, ◌+◌, ◌*◌, ◌^◌, ◌≤◌, ◌<◌, ◌⊎◌, ℕ, zero, suc, List, length, Any, slice_index, slice_index_or}
use Rattle.timeline.specs.declared.place.Want.{Want}

-- the distance is wanted from one mark to a later one, both among as many marks as there are steps
abbrev pub IsWithin : List ℕ → Want → Type 0
IsWithin steps want = (want.from < want.to) × (want.to < length steps)

-- the place of the mark before the one of this number, or 0 where there is none
abbrev pub before : List ℕ → ℕ → ℕ
before places zero = 0
before places (suc number) = slice_index places number

-- each mark is at least its step right of the mark before it, and the first at least its step right of the left edge
abbrev pub AreSpaced : List ℕ → List ℕ → Type 0
AreSpaced steps places = (number : ℕ) → number < length places → before places number + slice_index steps number ≤ slice_index places number

-- the place at which the want puts its mark: its least distance right of the mark that it counts from
abbrev pub wanted_by : List ℕ → Want → ℕ
wanted_by places want = slice_index places want.from + want.least

-- the mark of the want is no further left than the want puts it
abbrev pub IsDistanceKept : List ℕ → Want → Type 0
IsDistanceKept places want = wanted_by places want ≤ slice_index places want.to

-- the want is for the mark of this number, and puts it exactly where it is
abbrev pub IsReason : List ℕ → ℕ → Want → Type 0
IsReason places number want = (want.to ≡ number) × (wanted_by places want ≡ slice_index places number)

-- no mark is further right than need be: it is just its step right of the mark before, or just where some want puts it
abbrev pub AreTight : List ℕ → List Want → List ℕ → Type 0
AreTight steps wants places = (number : ℕ) → number < length places
    → (before places number + slice_index steps number ≡ slice_index places number) ⊎ Any (IsReason places number) wants

-- the want puts its mark at this place or further left
abbrev pub IsPutBefore : List ℕ → ℕ → Want → Type 0
IsPutBefore places place want = wanted_by places want ≤ place

-- a want whose index is in this range puts its mark exactly at this place
pub record IsPutBy (places : List ℕ) (wants : List Want) (from to place : ℕ) : Type 0 where
  pub number : ℕ
  pub following : from ≤ number
  pub before : number < to
  pub puts : (d : Want) → wanted_by places (slice_index_or wants number d) ≡ place

-- the place of the mark of this number is at most (number + 1) · 2^32
abbrev pub IsBounded : ℕ → ℕ → Type 0
IsBounded number place = place ≤ (number + 1) * 2 ^ 32

-- the place of each mark is at most (its number + 1) · 2^32
abbrev pub AreBounded : List ℕ → Type 0
AreBounded places = (number : ℕ) → number < length places → IsBounded number (slice_index places number)
