use Rattle.feeders.specs.Setting.{setting_of}
use Rattle.feeders.proofs.Settling.{waits_known}
use Rattle.feeders.proofs.intake.Intake.finish_step.Goals as goal

pub returns-in-Err-clause-fault : goal.returns-in-Err-clause-fault
returns-in-Err-clause-fault g c start items waiting pieces pending read claims =
    let known = waits_known (setting_of g.O.Opening.plan c.args.site.tower.now c.args.site.field start) items waiting pieces c.args.self.now c.args.access.now.pass c.in-Paired.step
    c.items_name_registers_of_the_tower.ensures c.steps_are_on_named_registers.ensures c.in-Paired.is pending read claims in
    c.in-Err.ensures.fault known.0 known.1
