use Rattle.logs.specs.Doings.{answered}
use Rattle.feeders.proofs.Doing.{goes_on}
use Rattle.feeders.proofs.Telling.{answered_after, told_answered}
use Rattle.feeders.proofs.noting.ask.Goals as goal

pub returns-clause-done : goal.returns-clause-done
returns-clause-done g c =
    let plan = g.O.Opening.plan in
    let pass = c.args.access.now.pass in
    let answer = c.in_ok-answer.answer in
    goes_on plan pass c.standing.new.self.pass c.args.log.now.lines.items c.push_reserved.new.self.items c.args.place (answered c.args.register answer)
    (told_answered plan pass c.standing.new.self.pass c.args.register answer c.in_ok-answer.ensures.live c.what_was_told_stays.ensures.seen)
    (cc)
    (answered_after plan pass c.standing.new.self.pass c.args.register answer c.requires.some c.in_ok-answer.ensures.live)
