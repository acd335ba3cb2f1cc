use Rattle.jepsen_form.proofs.Loops.{found_first, found_next, found_all}
use Rattle.jepsen_form.proofs.form.fill.Goals as goal

pub loop-key-init : goal.loop-key-init
loop-key-init c = found_first c.args.map.now c.args.chosen c.args.form.now c.requires

pub loop-key-preserved : goal.loop-key-preserved
loop-key-preserved c =
    found_next c.args.map.now c.loop-key.left c.next_pair.new.self c.args.chosen c.loop-key.form c.note.new.form c.in-Some.key c.in-Some.value
    c.loop-key.invariant c.in-Some.ensures.pair c.note.ensures

pub returns : goal.returns
returns c =
    found_all c.args.map.now c.loop-key.left c.next_pair.new.self c.args.chosen c.loop-key.form c.loop-key.invariant c.in_default.ensures.pair
