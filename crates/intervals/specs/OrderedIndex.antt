-- Ids in an index, each at a spot: a value and a moment. A place may be held before an id is in it.
use Rattle.std.specs.Prelude.{Bool, false, ◌==◌, ◌&&◌, Option, Some, None}
use Rattle.std.specs.declared.cmp.Ordering.{Ordering}
use Rattle.std.specs.BTreeMap.{get}
use Rattle.std.specs.Cmp.{IsTotalOrder, back_total, nat_cmp_total, on_total, then_total}
use Rattle.std.specs.Ordering.{nat_cmp, on, flip_args, then_cmp}
use Rattle.intervals.specs.declared.operation.OpId.{OpId}
use Rattle.intervals.specs.declared.operation.Moment.{Moment}
use Rattle.intervals.specs.declared.operation.Value.{Value}
use Rattle.intervals.specs.declared.ordered_index.Spot.{Spot}
use Rattle.intervals.specs.declared.ordered_index.OrderedIndex.{OrderedIndex}
use Rattle.intervals.specs.contracts.operation.ValueOrd.TheImpl as value_ord
use Rattle.intervals.specs.contracts.operation.ValueOrd.TheImpl.Laws.{total-law}
use Rattle.intervals.specs.Operation.{same_value}

-- the order of spots by their values, the greatest first
abbrev pub by_value : Spot → Spot → Ordering
by_value = flip_args (on (λ (s : Spot). s.value) (value_ord.ghosts).cmp)

-- the order of spots by their moments, the latest first
abbrev pub by_moment : Spot → Spot → Ordering
by_moment = flip_args (on (λ (s : Spot). s.moment.0) nat_cmp)

-- the order of spots: the greatest value first, and of one value the latest moment
abbrev pub spot_cmp : Spot → Spot → Ordering
spot_cmp = then_cmp by_value by_moment

-- the order of spots is total, as a map asks of the order of its keys
pub spot_total : IsTotalOrder spot_cmp
spot_total = then_total {R = by_value} {S = by_moment} (back_total (on_total (λ (s : Spot). s.value) total-law)) (back_total (on_total (λ (s : Spot). s.moment.0) nat_cmp_total))

-- what the index has at the spot: no place, a place without an id, or a place with an id
abbrev pub place_at : OrderedIndex → Spot → Option (Option OpId)
place_at shelf spot = get spot_cmp shelf.places spot

-- the id in the optional place, or none where there is no place or it has no id
abbrev pub id_if_there : Option (Option OpId) → Option OpId
id_if_there None = None
id_if_there (Some id) = id

-- the id that the index has at the spot, or none
abbrev pub id_at : OrderedIndex → Spot → Option OpId
id_at shelf spot = id_if_there (place_at shelf spot)

-- the spot of this value and this moment
abbrev pub spot_of : Value → Moment → Spot
spot_of value moment = record { value = value; moment = moment }

-- whether two spots are equal
abbrev pub same_spot : Spot → Spot → Bool
same_spot a b = same_value a.value b.value && (a.moment.0 == b.moment.0)

-- whether the optional spot is this one; false where there is none
abbrev pub is_spot : Option Spot → Spot → Bool
is_spot None other = false
is_spot (Some spot) other = same_spot spot other
