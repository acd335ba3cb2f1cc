use Rattle.std.proofs.Common.{inl, inr, sym, subst}
use Rattle.std.specs.Prelude.{Contains}
use Rattle.read_tree.specs.Items.{with_read_item}
use Rattle.read_tree.proofs.Members.{new_or_old, new_present, old_present}
use Rattle.read_tree.proofs.InOrder.{order_with}
use Rattle.read_tree.proofs.laws.a_new_item_has_one_place.Goals as goal

pub returns : goal.returns
returns c = record {
  items = λ new items none x. (
    new_or_old new items x,
    λ either. elim either [
      | inl same ↦ subst (Contains (with_read_item new items)) (sym same) (new_present new items)
      | inr old ↦ old_present new items none x old
    ],
  );
  order = order_with;
}
