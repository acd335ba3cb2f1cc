use Rattle.std.proofs.Common.{◌≡◌, ◌∙◌, ◌∷◌, Some, sym, ap, subst, length, arith, length-append}
use Rattle.summary_tree.specs.declared.node.Node.{Node}
use Rattle.summary_tree.specs.Layers.{Layers}
use Rattle.summary_tree.specs.Node.{items_of, layers_of, IsBalanced}
use Rattle.summary_tree.specs.Order.{AreInOrder, HasNoneAt}
use Rattle.summary_tree.proofs.Sides.{none_right}
use Rattle.summary_tree.proofs.node.Tree.+insert.Goals as goal

pub insert-stays-requires-else-comes_before : goal.insert-stays-requires-else-comes_before
insert-stays-requires-else-comes_before g t c κs within =
    let m = g.T.Keyed in
    let s = g.S.Summarizes in
    let top = c.in-Some.top.value in
    let k = m.key c.args.place.value.item in
    let seen : layers_of (Some c.in-Some.top) ≡ c.args.self.now = rw c.in-Some.is at c.self.view_is in
    let whole : items_of top ≡ c.args.self.now.items = ap (λ (l : Layers g.row.T.Denot g.row.S.Denot). l.items) seen in
    let height : top.height ≡ c.args.self.now.height = ap (λ (l : Layers g.row.T.Denot g.row.S.Denot). l.height) seen in
    let balanced = subst (IsBalanced s.one s.join s.IsOf) c.in-Some.is c.self.invariant in
    let side : c.go_right.result.now ≡ top.right = c.go_right.ensures.value ∙ ap (λ (n : Node g.row.T.Denot g.row.S.Denot). n.right) c.deref_mut-else-comes_before.ensures.value in
    let items : c.go_right.result.now.items ≡ top.right.items = ap (λ (l : Layers g.row.T.Denot g.row.S.Denot). l.items) side in
    let order = subst (λ (n : Node g.row.T.Denot g.row.S.Denot). AreInOrder m.key m.comes_before n.right.items) c.deref.ensures c.sides_are_in_order.ensures.right in
    let new = subst (HasNoneAt m.key k) (sym whole) c.requires.new_key in (
      omega (arith, c.decreases, ap length items, ap length whole, length-append top.left.items (top.item ∷ top.right.items)),
      (
        within.0,
        (
          within.1.0,
          (
            within.1.1,
            (
              subst (AreInOrder m.key m.comes_before) (sym items) order,
              (
                subst (HasNoneAt m.key k) (sym items) (none_right m.key k top.left.items top.item top.right.items new),
                (
                  c.requires.alone,
                  omega (arith, ap (λ (l : Layers g.row.T.Denot g.row.S.Denot). l.height) side, height, balanced.right.height, c.requires.room),
                ),
              ),
            ),
          ),
        ),
      ),
    )
