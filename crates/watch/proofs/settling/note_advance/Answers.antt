use Rattle.std.proofs.Common.{◌≤◌, false, length, arith}
use Rattle.watch.proofs.Advancing.{none_advanced, set_advanced}
use Rattle.watch.proofs.settling.note_advance.Goals as goal

pub returns-then-at-progress : goal.returns-then-at-progress
returns-then-at-progress c =
    set_advanced c.args.progress.now c.args.feeder c.args.by (record { taken = 0; over = false }) c.advanced.result c.if-at-progress.true c.advanced.ensures

pub returns-else-at-progress : goal.returns-else-at-progress
returns-else-at-progress c =
    let past : length c.args.progress.now ≤ c.args.feeder = omega (arith, c.if-at-progress.false) in
    none_advanced c.args.progress.now c.args.feeder c.args.by past
