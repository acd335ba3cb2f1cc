-- Reads that have ended, in rows, and covers between them: the last cover before a read decides whether it is right.
use Rattle.std.specs.Prelude.{◌≡◌, ℕ, Bool, false, not, ◌||◌, nat_lt, List, [], ◌∷◌, ◌++◌, Contains, Option, Some, None, IsTrue, find, filter, map, if◌then◌else◌}
use Rattle.std.specs.List.{AllByRecursion}
use Rattle.std.specs.declared.cmp.Ordering.TheVariants.{Less}
use Rattle.std.specs.Ordering.{is_lt}
use Rattle.intervals.specs.declared.operation.Value.{Value}
use Rattle.intervals.specs.declared.operation.Value.TheVariants.{Nil}
use Rattle.intervals.specs.declared.ordered_index.Spot.{Spot}
use Rattle.intervals.specs.Operation.{same_value}
use Rattle.intervals.specs.OrderedIndex.{spot_cmp, spot_of, same_spot}
use Rattle.read_tree.specs.declared.item.RowItem.{RowItem}
use Rattle.read_tree.specs.declared.item.Cover.{Cover}

-- what a tree of reads and covers holds: its items in order, and how many more it has room for
pub record ReadContents : Type 0 where
  pub items : List RowItem
  pub free : ℕ

-- the row of an item: that of its value where it is by value, else the one row, which is nil's
abbrev pub row_of : RowItem → Value
row_of x = if x.by_value then x.value else Nil

-- the spot of an item: its row and its moment
abbrev pub spot_of_item : RowItem → Spot
spot_of_item x = spot_of (row_of x) x.moment

-- the first spot comes before the second: its row has the lesser value, or the row is one and its moment is earlier
abbrev pub StandsBefore : Spot → Spot → Type 0
StandsBefore a b = spot_cmp b a ≡ Less

-- the spot of each item comes before those of all later items
abbrev pub AreItemsInOrder : List RowItem → Type 0
AreItemsInOrder [] = Unit {0}
AreItemsInOrder (x ∷ items) = AllByRecursion (λ later. StandsBefore (spot_of_item x) (spot_of_item later)) items × AreItemsInOrder items

-- the test whether the item comes before the spot
abbrev pub present_before : Spot → RowItem → Bool
present_before spot x = is_lt (spot_cmp spot (spot_of_item x))

-- the test whether the item comes after the spot
abbrev pub present_following : Spot → RowItem → Bool
present_following spot x = is_lt (spot_cmp (spot_of_item x) spot)

-- the items and one more, in its place by spot
abbrev pub with_read_item : RowItem → List RowItem → List RowItem
with_read_item x items = filter (present_before (spot_of_item x)) items ++ x ∷ filter (present_following (spot_of_item x)) items

-- the item at the spot, or none
abbrev pub item_at_spot : Spot → List RowItem → Option RowItem
item_at_spot spot items = find (λ x. same_spot (spot_of_item x) spot) items

-- the items at other spots than this one
abbrev pub without_read_item : Spot → List RowItem → List RowItem
without_read_item spot items = filter (λ x. not (same_spot (spot_of_item x) spot)) items

-- the new item where the other has its spot, else the other
abbrev pub in_place_of : RowItem → RowItem → RowItem
in_place_of new x = if same_spot (spot_of_item x) (spot_of_item new) then new else x

-- the items, with the new one in the place of the one at its spot, if there is one
abbrev pub renewed : RowItem → List RowItem → List RowItem
renewed new items = map (in_place_of new) items

-- what an item covers where it is a cover, without its spot
abbrev pub cover_of : RowItem → Cover
cover_of x = record { value = x.value; reach = x.reach; by_value = x.by_value }

-- the read's reach is above the limit of the cover before it: 0 without a cover; by value c.reach for reads of c's
-- value and 0 for others; in the one row no limit for reads of c's value and c.reach for others
abbrev pub is_uncovered : Option Cover → RowItem → Bool
is_uncovered None r = nat_lt 0 r.reach
is_uncovered (Some c) r =
    if same_value r.value c.value
    then (if c.by_value then nat_lt c.reach r.reach else false)
    else nat_lt (if c.by_value then 0 else c.reach) r.reach

-- some read of the list is uncovered (`is_uncovered`) by the last cover before it; c is the last one before the list
abbrev pub is_some_uncovered : Option Cover → List RowItem → Bool
is_some_uncovered c [] = false
is_some_uncovered c (x ∷ items) = if x.covers then is_some_uncovered (Some (cover_of x)) items else is_uncovered c x || is_some_uncovered c items

-- of two optional reads the one that ended first
abbrev pub earlier_read : Option RowItem → Option RowItem → Option RowItem
earlier_read None b = b
earlier_read (Some a) None = Some a
earlier_read (Some a) (Some b) = if nat_lt b.moment.0 a.moment.0 then Some b else Some a

-- of the uncovered reads of the list the one that ended first, or none; c is the last cover before the list
abbrev pub first_uncovered : Option Cover → List RowItem → Option RowItem
first_uncovered c [] = None
first_uncovered c (x ∷ items) =
    if x.covers
    then first_uncovered (Some (cover_of x)) items
    else earlier_read (if is_uncovered c x then Some x else None) (first_uncovered c items)

-- c is the last of the covers that come before the spot
pub record IsLastCover (items : List RowItem) (spot : Spot) (c : RowItem) : Type 0 where
  pub present : Contains items c
  pub covers : IsTrue c.covers
  pub before : StandsBefore (spot_of_item c) spot
  pub last : (d : RowItem) → Contains items d → IsTrue d.covers → StandsBefore (spot_of_item d) spot → ¬ StandsBefore (spot_of_item c) (spot_of_item d)

-- the optional cover is the last one that comes before the spot; none where no cover does
abbrev pub IsCoverAt : List RowItem → Spot → Option RowItem → Type 0
IsCoverAt items spot None = (d : RowItem) → Contains items d → IsTrue d.covers → ¬ StandsBefore (spot_of_item d) spot
IsCoverAt items spot (Some c) = IsLastCover items spot c
