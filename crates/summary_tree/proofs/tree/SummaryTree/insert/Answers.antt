use Rattle.std.proofs.Common.{◌≡◌, ◌∙◌, length, sym, ap, subst, arith}
use Rattle.summary_tree.specs.Order.{TreeContents, AreInOrder, HasNoneAt, with_item}
use Rattle.summary_tree.proofs.Places.{order_with, count_with}
use Rattle.summary_tree.proofs.tree.SummaryTree.insert.Goals as goal

pub invariant_of-self : goal.invariant_of-self
invariant_of-self g c =
    let m = g.T.Keyed in
    let order = c.keys_are_in_one_order.ensures.order in
    let item = c.args.item in
    let items = c.self.inside.tree.items in
    let here = ap (λ (t : TreeContents g.row.T.Denot). t.items) c.self.view_is in
    let new = subst (HasNoneAt m.key (m.key item)) (sym here) c.requires.new_key in
    let done : c.insert.new.self.items ≡ with_item m.key m.comes_before item items = c.insert.ensures.items ∙ ap (λ (x : g.row.T.Denot). with_item m.key m.comes_before x items) c.take-place.ensures.item in
    record {
      order = subst (AreInOrder m.key m.comes_before) (sym done) (order_with m.key m.comes_before order item items c.self.invariant.order);
      count = omega (arith, ap length done, count_with m.key m.comes_before order item items c.self.invariant.order new, c.take-place.ensures.taken, c.self.invariant.count);
    }
