-- The laws of the timeline on which those of a scene rest.
use Rattle.std.proofs.Common.{◌≡◌, ◌<◌, ◌≤◌, ℕ, true, List, length, Some}
use Rattle.std.specs.Prelude.{◌↔◌, All, Contains, IsSorted, slice_index, sum}
use Rattle.std.specs.List.{slice_get}
use Rattle.intervals.specs.declared.operation.Moment.{Moment}
use Rattle.intervals.specs.declared.operation.Op.{Op}
use Rattle.intervals.specs.declared.operation.OpId.{OpId}
use Rattle.intervals.specs.Operation.{Precedes}
use Rattle.timeline.specs.declared.axis.Mark.{Mark}
use Rattle.timeline.specs.declared.axis.BarSpan.{BarSpan}
use Rattle.timeline.specs.declared.choice.Chosen.{Chosen}
use Rattle.timeline.specs.declared.choice.Extent.{Extent}
use Rattle.timeline.specs.Axis.{AreMarks, AreSpans, folded_of, mark_cmp}
use Rattle.timeline.specs.Choice.{IsChosen, is_among}
use Rattle.timeline.specs.Place.{AreSpaced}

-- what is asked for is shown
abbrev pub Asked : Type 0
Asked = (ops : List Op) (ids : List OpId) (extent : Extent) (chosen : Chosen) (op : Op) → IsChosen ops ids extent chosen → Contains ops op → is_among ids op.id ≡ true
    → Contains chosen.shown.items op

-- what is left out is counted
abbrev pub Counted : Type 0
Counted = (marks : List Mark) (hidden : List Moment) → IsSorted mark_cmp marks → sum (folded_of 0 marks hidden) ≡ length hidden

-- the end of one operation is left of the beginning of another exactly where the one precedes the other
abbrev pub Left : Type 0
Left = (ops : List Op) (marks : List Mark) (spans : List BarSpan) (steps places : List ℕ) (i j end : ℕ) (a b : Op) (s t : BarSpan)
    → AreMarks ops marks → AreSpans ops marks spans → AreSpaced steps places → length marks ≤ length places → All (λ step. 0 < step) steps → length places ≡ length steps
    → slice_get ops i ≡ Some a → slice_get spans i ≡ Some s → slice_get ops j ≡ Some b → slice_get spans j ≡ Some t → s.end ≡ Some end
    → Precedes a b ↔ (slice_index places end < slice_index places t.begin)
