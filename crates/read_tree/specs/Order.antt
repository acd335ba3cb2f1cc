-- The order of spots, as a test.
use Rattle.std.specs.Prelude.{Bool}
use Rattle.std.specs.Ordering.{is_lt}
use Rattle.intervals.specs.declared.ordered_index.Spot.{Spot}
use Rattle.intervals.specs.OrderedIndex.{spot_cmp}

-- the test for `StandsBefore`: the first spot comes before the second
abbrev pub spot_before : Spot → Spot → Bool
spot_before a b = is_lt (spot_cmp b a)
