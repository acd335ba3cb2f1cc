-- Writes in the order of their beginnings. No public clause speaks of these words.
use Rattle.std.specs.Prelude.{◌≡◌, ◌≤◌, ◌==◌, Bool, ◌&&◌, All, Contains, List, Option, Some, None, find, option_map}
use Rattle.intervals.specs.declared.operation.Op.{Op}
use Rattle.intervals.specs.declared.operation.Moment.{Moment}
use Rattle.intervals.specs.declared.operation.Value.TheVariants.{Nil}
use Rattle.intervals.specs.declared.ordered_index.OrderedIndex.{OrderedIndex}
use Rattle.intervals.specs.declared.ordered_index.Spot.{Spot}
use Rattle.intervals.specs.Operation.{IsWrite, is_write}
use Rattle.intervals.specs.Moments.{IsLaterThan}
use Rattle.intervals.specs.OrderedIndex.{id_at, spot_of}

-- whether the operation is a write that begins at the moment
abbrev pub begins_then : Moment → Op → Bool
begins_then moment w = is_write w && (w.begin.0 == moment.0)

-- the spot of a write that begins at the moment in an index of writes by beginning: the moment, with the value nil
abbrev pub spot_then : Moment → Spot
spot_then moment = spot_of Nil moment

-- at the spot of each moment the index has the id of the first write in the list that begins then, or none
abbrev pub AreWritesByBegin : OrderedIndex → List Op → Type 0
AreWritesByBegin shelf ops = (moment : Moment) → id_at shelf (spot_then moment) ≡ option_map (λ w. w.id) (find (begins_then moment) ops)

-- the optional write is the first to begin after the moment, or of all where none is given; none where no write does
abbrev pub IsNextWrite : List Op → Option Moment → Option Op → Type 0
IsNextWrite ops after None = All (λ w. IsWrite w → ¬ IsLaterThan after w.begin) ops
IsNextWrite ops after (Some w) =
    Contains ops w × IsWrite w × IsLaterThan after w.begin × All (λ v. IsWrite v → IsLaterThan after v.begin → w.begin.0 ≤ v.begin.0) ops
