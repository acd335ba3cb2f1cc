use Rattle.std.proofs.Common.{◌∷◌, ap, subst, length, arith, length-append}
use Rattle.summary_tree.specs.Order.{AreInOrder}
use Rattle.summary_tree.proofs.Sides.{right_in_order}
use Rattle.summary_tree.proofs.node.Tree.+get.Goals as goal

pub get-requires-then-comes_before-2 : goal.get-requires-then-comes_before-2
get-requires-then-comes_before-2 g t c κs within =
    let m = g.T.Keyed in
    let n = c.in-Some.node.now in
    let all = c.in-Some.ensures.all in
    let order = subst (AreInOrder m.key m.comes_before) all c.requires in (
      omega (arith, c.decreases, ap length all, length-append n.left.items (n.item ∷ n.right.items)),
      (within.0, (within.1.0, (within.1.1, right_in_order m.key m.comes_before n.left.items n.item n.right.items order))),
    )
