use Rattle.std.proofs.Common.{refl}
use Rattle.feeders.specs.declared.pending.Pending.TheVariants.{Paired}
use Rattle.feeders.proofs.Settling.{pair_waits}
use Rattle.feeders.proofs.intake.Intake.pair_lent.Goals as goal

pub returns-in_ok-step-clause-pending : goal.returns-in_ok-step-clause-pending
returns-in_ok-step-clause-pending c setting items waiting pass pending =
    let old = c.args.self.now in
    pair_waits setting items waiting pass old (record { splitter = old.splitter; kept = old.kept; progress = c.pair.new.self; pending = Paired c.in_ok-step.step }) c.in-Lent.item c.in_ok-step.step
    c.in-Lent.is refl c.in_ok-step.ensures.paired pending
