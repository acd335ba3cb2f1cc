use Rattle.std.proofs.Common.{◌≡◌, subst}
use Rattle.watch.specs.declared.run.Terms.{Terms}
use Rattle.watch.specs.Teller.{state_after}
use Rattle.watch.proofs.Telling.{not_written, written_one}
use Rattle.watch.proofs.printer.Printer.write_one.Goals as goal

pub returns-clause-told : goal.returns-clause-told
returns-clause-told g c =
    let written = c.write_notice-written in
    written_one g.B.Beginning.terms g.B.Beginning.registers written.result c.args.notice.now c.state_after.result c.args.self.now written.new.self
    (subst (λ (t : Terms). c.state_after.result ≡ state_after written.result t.until_fail c.args.notice.now) c.self.invariant.2 c.state_after.ensures) written.ensures.written written.ensures.left

pub returns-clause-none : goal.returns-clause-none
returns-clause-none g c =
    let written = c.write_notice-written in
    not_written g.B.Beginning.terms g.B.Beginning.registers written.result c.args.notice.now c.state_after.result c.args.self.now written.new.self
    (subst (λ (t : Terms). c.state_after.result ≡ state_after written.result t.until_fail c.args.notice.now) c.self.invariant.2 c.state_after.ensures) written.ensures.memory
