use Rattle.std.proofs.Common.{◌≡◌, ◌∙◌, length, sym, ap, subst, arith}
use Rattle.std.specs.Prelude.{not}
use Rattle.summary_tree.specs.Order.{AreInOrder}
use Rattle.summary_tree.proofs.Places.{order_kept, keep_without}
use Rattle.summary_tree.proofs.Members.{count_without}
use Rattle.summary_tree.proofs.tree.SummaryTree.remove.Goals as goal

pub invariant_of-self : goal.invariant_of-self
invariant_of-self g c =
    let m = g.T.Keyed in
    let items = c.self.inside.tree.items in
    let none = rw c.in_default.is at c.remove-taken.ensures.item in
    let same : c.remove-taken.new.self.items ≡ items = c.remove-taken.ensures.items ∙ keep_without m.key m.same c.keys_are_in_one_order.ensures.exact c.args.key items none in
    record {
      order = subst (AreInOrder m.key m.comes_before) (sym same) c.self.invariant.order;
      count = c.self.invariant.count ∙ sym (ap length same);
    }

pub invariant_of-self-2 : goal.invariant_of-self-2
invariant_of-self-2 g c =
    let m = g.T.Keyed in
    let laws = c.keys_are_in_one_order.ensures in
    let items = c.self.inside.tree.items in
    let order = c.self.invariant.order in
    let taken = rw c.in-Some.is at c.remove-taken.ensures.item in
    record {
      order = subst (AreInOrder m.key m.comes_before) (sym c.remove-taken.ensures.items) (order_kept m.key m.comes_before laws.order (λ x. not (m.same (m.key x) c.args.key)) items order);
      count = omega (
        arith,
        ap length c.remove-taken.ensures.items,
        count_without m.key m.comes_before m.same laws.order laws.exact c.args.key items c.in-Some.place.value.item order taken.item,
        c.give.ensures.taken,
        c.self.invariant.count,
      );
    }
