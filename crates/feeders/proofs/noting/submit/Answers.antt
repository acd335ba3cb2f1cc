use Rattle.std.proofs.Common.{◌≡◌, ◌++◌, append-nil, refl}
use Rattle.logs.specs.Doings.{entered, lines_at, what_of_reply}
use Rattle.feeders.proofs.Doing.{goes_on}
use Rattle.feeders.proofs.Telling.{told_entered}
use Rattle.feeders.proofs.noting.submit.Goals as goal

pub returns-in-Refused-clause-done : goal.returns-in-Refused-clause-done
returns-in-Refused-clause-done g c =
    let plan = g.O.Opening.plan in
    let receipt = c.in_ok-receipt.receipt in
    let lines = c.args.log.now.lines.items in
    let noted : c.push_reserved.new.self.items ≡ lines ++ lines_at c.args.place (what_of_reply c.args.register c.args.edit receipt.reply) = rw c.in-Refused.is cc in
    goes_on plan c.args.access.now.pass c.submit.new.self.pass lines c.push_reserved.new.self.items c.args.place (entered c.args.register c.args.edit receipt.number receipt.reply)
    (told_entered plan c.args.access.now.pass c.submit.new.self.pass c.args.register c.args.edit receipt c.requires.some c.in_ok-receipt.ensures.submitted c.in_ok-receipt.ensures.told
    c.what_was_told_stays.ensures.own c.what_was_told_stays.ensures.others)
    noted (λ start doings feeder own. tt)

pub returns-in_default-clause-done : goal.returns-in_default-clause-done
returns-in_default-clause-done g c =
    let plan = g.O.Opening.plan in
    let receipt = c.in_ok-receipt.receipt in
    let lines = c.args.log.now.lines.items in
    let noted : lines ≡ lines ++ lines_at c.args.place (what_of_reply c.args.register c.args.edit receipt.reply) = rw (c.in_default.is, append-nil) refl in
    goes_on plan c.args.access.now.pass c.submit.new.self.pass lines lines c.args.place (entered c.args.register c.args.edit receipt.number receipt.reply)
    (told_entered plan c.args.access.now.pass c.submit.new.self.pass c.args.register c.args.edit receipt c.requires.some c.in_ok-receipt.ensures.submitted c.in_ok-receipt.ensures.told
    c.what_was_told_stays.ensures.own c.what_was_told_stays.ensures.others)
    noted (λ start doings feeder own. tt)
