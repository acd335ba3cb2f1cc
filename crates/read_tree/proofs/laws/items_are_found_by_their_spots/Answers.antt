use Rattle.intervals.specs.OrderedIndex.{same_spot}
use Rattle.read_tree.specs.Items.{spot_of_item}
use Rattle.read_tree.proofs.Members.{found_present, found_by_spot, none_present, none_found_where}
use Rattle.read_tree.proofs.laws.items_are_found_by_their_spots.Goals as goal

pub returns : goal.returns
returns c = record {
  found = λ spot items x order. (
    found_present (λ y. same_spot (spot_of_item y) spot) items x,
    λ present. found_by_spot spot items x order present.0 present.1,
  );
  none = λ spot items. (none_present (λ y. same_spot (spot_of_item y) spot) items, none_found_where (λ y. same_spot (spot_of_item y) spot) items);
}
