use Rattle.timeline.proofs.InOrder.{found, missed}
use Rattle.timeline.proofs.axis.number_of.Goals as goal

pub unreachable-requires : goal.unreachable-requires
unreachable-requires c = missed c.args.marks.now c.args.mark c.in-Err.field-0 c.requires.sorted c.requires.present c.in-Err.ensures.position

pub returns : goal.returns
returns c = found c.args.marks.now c.args.mark c.in-Ok.number c.in-Ok.ensures.bound c.in-Ok.ensures.ok
