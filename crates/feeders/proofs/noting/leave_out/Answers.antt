use Rattle.std.proofs.Common.{refl}
use Rattle.logs.specs.Doings.{refused}
use Rattle.feeders.proofs.Doing.{goes_on, told_nothing}
use Rattle.feeders.proofs.noting.leave_out.Goals as goal

pub returns-clause-done : goal.returns-clause-done
returns-clause-done g c pass =
    let plan = g.O.Opening.plan in
    goes_on plan pass pass c.args.log.now.lines.items c.push.new.self.items c.args.place (refused c.args.left_out)
    (told_nothing plan.shards (refused c.args.left_out) pass (λ feeder at. refl)) c.in_ok-push.ensures.items (λ start doings feeder own. tt)
