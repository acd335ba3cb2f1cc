use Rattle.std.proofs.Common.{◌≡◌, Bool, true, false, not, refl, ap}
use Rattle.intervals.specs.OrderedIndex.{same_spot}
use Rattle.read_tree.specs.Items.{spot_of_item}
use Rattle.read_tree.proofs.Members.{kept_from, kept_in}
use Rattle.read_tree.proofs.InOrder.{order_kept}
use Rattle.read_tree.proofs.laws.a_removed_item_leaves_the_others.Goals as goal

not_true : (b : Bool) → not b ≡ true → b ≡ false
not_true true h = cc
not_true false h = refl

pub returns : goal.returns
returns c = record {
  items = λ spot items x. (
    λ c. let kept = kept_from (λ y. not (same_spot (spot_of_item y) spot)) items x c in (kept.0, not_true _ kept.1),
    λ other. kept_in (λ y. not (same_spot (spot_of_item y) spot)) items x other.0 (ap not other.1),
  );
  order = λ spot items order. order_kept (λ y. not (same_spot (spot_of_item y) spot)) items order;
}
