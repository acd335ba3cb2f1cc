-- The distances that a picture needs.
use Rattle.std.specs.Prelude.{◌≤◌, ◌<◌, ◌+◌, ◌*◌, ◌-◌, ◌^◌, ◌&&◌, ℕ, min, nat_le, nat_lt, List, [], ◌∷◌, ◌++◌, if◌then◌else◌, length, string_bytes}
use Rattle.std.specs.List.{slice_get}
use Rattle.std.specs.declared.string.String.{String}
use Rattle.std.specs.Option.{option_map_or, unwrap_or}
use Rattle.timeline.specs.declared.axis.BarSpan.{BarSpan}
use Rattle.timeline.specs.declared.place.Want.{Want}
use Rattle.show.specs.declared.measure.Measure.{Measure}

-- a distance is between two of so many marks, the first before the second; the right edge comes after the last mark
abbrev pub IsWanted : ℕ → Want → Type 0
IsWanted many want = (want.from < want.to) × (want.to ≤ many)

-- the width of so many characters, at most 2^32 - 1
abbrev pub width_of : Measure → ℕ → ℕ
width_of measure characters = if nat_lt characters (2 ^ 32) then min (characters * measure.character) (2 ^ 32 - 1) else 2 ^ 32 - 1

-- the width of a label with what is around it, at most 2^32 - 1
abbrev pub label_width : {A : Type 0} → Measure → String A → ℕ
label_width measure label = min (width_of measure (length (string_bytes label)) + measure.label) (2 ^ 32 - 1)

-- the mark at which a span ends; where it has no end, the right edge, whose number is that of all marks
abbrev pub span_end_mark : ℕ → BarSpan → ℕ
span_end_mark many span = unwrap_or span.end many

-- a least distance between two of so many marks; none unless the first comes before the second
abbrev pub wanted_between : ℕ → ℕ → ℕ → ℕ → List Want
wanted_between many from to least = if nat_lt from to && nat_le to many then record { from = from; to = to; least = least } ∷ [] else []

-- for each span, of which the first has this number, the width of its label as the least distance between its marks
abbrev pub wanted_of : {A : Type 0} → Measure → ℕ → List (String A) → ℕ → List BarSpan → List Want
wanted_of measure many labels number [] = []
wanted_of measure many labels number (span ∷ spans) =
    wanted_between many span.begin (span_end_mark many span) (option_map_or (label_width measure) (slice_get labels number) 0)
    ++ wanted_of measure many labels (number + 1) spans
