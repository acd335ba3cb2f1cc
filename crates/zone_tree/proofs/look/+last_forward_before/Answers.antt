use Rattle.std.proofs.Common.{◌∙◌, sym, ap}
use Rattle.zone_tree.specs.Look.{begins_before, last_that}
use Rattle.zone_tree.proofs.Looks.{last_in_right}
use Rattle.zone_tree.proofs.look.+last_forward_before.Goals as goal

pub returns-in-Some-last_forward_before : goal.returns-in-Some-last_forward_before
returns-in-Some-last_forward_before t c =
    let n = c.in-Some.node.now in
    let p = begins_before c.args.edge in
    sym (ap (last_that p) c.in-Some.ensures.all ∙ last_in_right p n.left.items n.item n.right.items c.in-Some-last_forward_before.zone (sym c.in-Some-last_forward_before.ensures))
