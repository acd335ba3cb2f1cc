use Rattle.std.proofs.Common.{◌∙◌, length, sym, ap, subst}
use Rattle.summary_tree.specs.Order.{AreInOrder}
use Rattle.summary_tree.proofs.Members.{order_replaced, count_replaced}
use Rattle.summary_tree.proofs.tree.SummaryTree.replace.Goals as goal

pub invariant_of-self : goal.invariant_of-self
invariant_of-self g c =
    let m = g.T.Keyed in
    let laws = c.keys_are_in_one_order.ensures in
    let items = c.self.inside.tree.items in
    record {
      order = subst (AreInOrder m.key m.comes_before) (sym c.replace.ensures.items) (order_replaced m.key m.comes_before m.same laws.order laws.exact c.args.item items c.self.invariant.order);
      count = c.self.invariant.count ∙ sym (ap length c.replace.ensures.items ∙ count_replaced m.key m.comes_before m.same laws.order laws.exact c.args.item items);
    }
