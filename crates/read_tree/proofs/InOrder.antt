-- Items in order, said of each two of them and by recursion.
use Rattle.std.proofs.Common.{◌≡◌, Bool, inl, inr, List, [], ◌∷◌, None}
use Rattle.std.specs.Prelude.{All, IsTrue, filter}
use Rattle.std.specs.List.{AllByRecursion}
use Rattle.std.proofs.lemmas.List.Elements.{All-nil, All-cons, All-head, All-tail}
use Rattle.summary_tree.specs.Order.{IsStrictOrder, IsExact, HasNoneAt}
use Rattle.summary_tree.specs.Order.{AreInOrder as AreByKey}
use Rattle.summary_tree.proofs.Pairs.{pairs_nil, pairs_head, pairs_tail, pairs_cons}
use Rattle.summary_tree.proofs.Places as places
use Rattle.summary_tree.proofs.Members as members
use Rattle.intervals.specs.declared.ordered_index.Spot.{Spot}
use Rattle.intervals.specs.OrderedIndex.{same_spot}
use Rattle.read_tree.specs.declared.item.RowItem.{RowItem}
use Rattle.read_tree.specs.Items.{AreItemsInOrder, StandsBefore, spot_of_item, with_read_item, item_at_spot, renewed}
use Rattle.read_tree.specs.Order.{spot_before}
use Rattle.read_tree.proofs.Order.{irreflexive, transitive, trichotomy, same_true, true_same, before_true, true_before}

pub spot_order : IsStrictOrder spot_before
spot_order = record {
  irreflexive = λ a h. irreflexive a (true_before a a h);
  transitive = λ a b c p q. before_true a c (transitive a b c (true_before a b p) (true_before b c q));
  total = λ a b. elim (trichotomy a b) [
    | inl same ↦ inr (inl same)
    | inr either ↦ elim either [ inl p ↦ inl (before_true a b p) | inr q ↦ inr (inr (before_true b a q)) ]
  ];
}

pub spot_exact : IsExact same_spot
spot_exact = record { one = same_true; here = true_same }

abbrev Before : RowItem → RowItem → Type 0
Before a b = IsTrue (spot_before (spot_of_item a) (spot_of_item b))

all_from : (spot : Spot) (items : List RowItem) → AllByRecursion (λ x. StandsBefore spot (spot_of_item x)) items → All (λ x. IsTrue (spot_before spot (spot_of_item x))) items
all_from spot [] a = All-nil (λ x. IsTrue (spot_before spot (spot_of_item x)))
all_from spot (x ∷ items) a = All-cons (λ y. IsTrue (spot_before spot (spot_of_item y))) x items (before_true spot (spot_of_item x) a.0) (all_from spot items a.1)

all_to : (spot : Spot) (items : List RowItem) → All (λ x. IsTrue (spot_before spot (spot_of_item x))) items → AllByRecursion (λ x. StandsBefore spot (spot_of_item x)) items
all_to spot [] a = tt
all_to spot (x ∷ items) a =
    (true_before spot (spot_of_item x) (All-head (λ y. IsTrue (spot_before spot (spot_of_item y))) x items a), all_to spot items (All-tail (λ y. IsTrue (spot_before spot (spot_of_item y))) x items a))

to_tree : (items : List RowItem) → AreItemsInOrder items → AreByKey spot_of_item spot_before items
to_tree [] order = pairs_nil Before
to_tree (x ∷ items) order = pairs_cons Before x items (all_from (spot_of_item x) items order.0) (to_tree items order.1)

pub from_tree : (items : List RowItem) → AreByKey spot_of_item spot_before items → AreItemsInOrder items
from_tree [] by = tt
from_tree (x ∷ items) by = (all_to (spot_of_item x) items (pairs_head Before x items by), from_tree items (pairs_tail Before x items by))

-- no item is found where none has that spot
pub none_at : (spot : Spot) (items : List RowItem) → item_at_spot spot items ≡ None → HasNoneAt spot_of_item spot items
none_at spot items e = places.none_where spot_of_item same_spot spot_exact spot items e

-- a filter keeps the order, and so does one more item
pub order_kept : (p : RowItem → Bool) (items : List RowItem) → AreItemsInOrder items → AreItemsInOrder (filter p items)
order_kept p items order = from_tree (filter p items) (places.order_kept spot_of_item spot_before spot_order p items (to_tree items order))

pub order_with : (new : RowItem) (items : List RowItem) → AreItemsInOrder items → AreItemsInOrder (with_read_item new items)
order_with new items order = from_tree (with_read_item new items) (places.order_with spot_of_item spot_before spot_order new items (to_tree items order))

pub order_renewed : (new : RowItem) (items : List RowItem) → AreItemsInOrder items → AreItemsInOrder (renewed new items)
order_renewed new items order = from_tree (renewed new items) (members.order_replaced spot_of_item spot_before same_spot spot_order spot_exact new items (to_tree items order))
