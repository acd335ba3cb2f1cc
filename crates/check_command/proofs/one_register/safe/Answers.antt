use Rattle.std.proofs.Common.{◌≡◌, false, not, rules}
use Rattle.std.specs.Prelude.{is_some}
use Rattle.std.specs.Io.KnownBytes.{Appends}
use Rattle.command_parts.specs.Status.{status_of}
use Rattle.check_command.specs.Verdict.{verdict_line}
use Rattle.check_command.proofs.Endings.{audited}
use Rattle.check_command.proofs.one_register.safe.Goals as goal

pub returns-in-Ok-write_text-clause-audited : goal.returns-in-Ok-write_text-clause-audited
returns-in-Ok-write_text-clause-audited g c =
    let audit = c.in_ok-audit.audit in
    let old = g.W.Write.contents c.args.out.now in
    let new = g.W.Write.contents c.write_text.new.out in
    let written : Appends old new (verdict_line audit.kind audit.holds audit.operations) = search rules in
    let status_is : c.status_of.result ≡ status_of (is_some audit.broken) (not audit.holds) audit.refused false = search rules in
    audited (g.S.Read.remaining c.args.reader) audit c.status_of.result old new c.in_ok-audit.ensures.audit written status_is
