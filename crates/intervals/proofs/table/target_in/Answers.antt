use Rattle.std.proofs.Common.{◌≡◌, ◌∙◌, ap}
use Rattle.intervals.specs.Edit.{found_by}
use Rattle.intervals.specs.Table.{ops_in_slots}
use Rattle.intervals.proofs.table.target_in.Goals as goal

pub returns-in-Some-clause-target : goal.returns-in-Some-clause-target
returns-in-Some-clause-target c holder indexed =
    let ops = ops_in_slots c.args.slots.now in
    let found = c.in-Some.ensures.found holder indexed ∙ ap (found_by ops) c.id.ensures in
    record { old = found; new = c.new_op.ensures ops found }
