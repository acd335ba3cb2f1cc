use Rattle.summary_tree.proofs.Low.{low_node}
use Rattle.summary_tree.proofs.Sums.{around_is}
use Rattle.summary_tree.proofs.node.Node.sides_are_balanced.Goals as goal

pub returns : goal.returns
returns g c =
    let n = c.args.self.now in
    let m = g.S.Summarizes in
    let laws = c.summaries_add_up.ensures in
    let left = c.height.ensures in
    let right = c.height-2.ensures in
    record {
      right = c.requires;
      low = rw c.requires.height (low_node n.left.items n.item n.right.items n.left.height n.right.height left.low right.low c.requires.near);
      summary = rw c.requires.made (around_is m.one m.join m.IsOf laws.one laws.join n.left.summary n.item n.right.summary n.left.items n.right.items left.summed right.summed);
    }
