-- Which operation has each moment.
use Rattle.std.specs.Prelude.{◌==◌, ◌<◌, Bool, Option, None, Some}
use Rattle.std.specs.declared.cmp.Ordering.{Ordering}
use Rattle.intervals.specs.declared.operation.OpId.{OpId}
use Rattle.intervals.specs.declared.operation.Moment.{Moment}
use Rattle.intervals.specs.declared.rising.RisingMap.{RisingMap}
use Rattle.intervals.specs.contracts.operation.MomentOrd.TheImpl as moment_ord
use Rattle.intervals.specs.Rising.{IsInOrder, value_at}

-- whether two moments are equal
abbrev pub same_moment : Moment → Moment → Bool
same_moment a b = a.0 == b.0

-- the order of moments, by their numbers
abbrev pub moment_cmp : Moment → Moment → Ordering
moment_cmp = (moment_ord.ghosts).cmp

-- the map from moments to ids is in order (`IsInOrder`)
abbrev pub AreMoments : RisingMap Moment OpId → Type 0
AreMoments moments = IsInOrder same_moment moment_cmp moments

-- the id of the operation that has the moment, or none
abbrev pub holder_at : RisingMap Moment OpId → Moment → Option OpId
holder_at moments moment = value_at same_moment moments moment

-- the second moment is after the optional first one; always so where there is no first
abbrev pub IsLaterThan : Option Moment → Moment → Type 0
IsLaterThan None moment = Unit {0}
IsLaterThan (Some after) moment = after.0 < moment.0
