use Rattle.std.proofs.Common.{inl, inr, sym, subst}
use Rattle.std.specs.Prelude.{Contains}
use Rattle.read_tree.specs.Items.{renewed}
use Rattle.read_tree.proofs.Members.{renewed_from, renewed_in, stays_in}
use Rattle.read_tree.proofs.InOrder.{order_renewed}
use Rattle.read_tree.proofs.laws.a_renewed_item_is_where_one_was.Goals as goal

pub returns : goal.returns
returns c = record {
  items = λ new items x. (
    renewed_from new items x,
    λ is. elim is [
      | inl stays ↦ stays_in new items x stays.0 stays.1
      | inr came ↦ subst (Contains (renewed new items)) (sym came.0) (renewed_in new items came.1.0 came.1.1 came.1.2)
    ],
  );
  order = λ new items order. order_renewed new items order;
}
