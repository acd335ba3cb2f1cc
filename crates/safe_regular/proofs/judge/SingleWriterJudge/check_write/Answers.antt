use Rattle.std.proofs.Common.{◌≡◌, subst}
use Rattle.intervals.specs.Refusal.{ok_unless, write_refusal}
use Rattle.safe_regular.specs.Held.{JudgeModel}
use Rattle.safe_regular.proofs.Members.{are_apart}
use Rattle.safe_regular.proofs.judge.SingleWriterJudge.check_write.Goals as goal

pub returns : goal.returns
returns c =
    let held = c.self.invariant in
    subst (λ (x : JudgeModel). c.check_write.result ≡ ok_unless (write_refusal x.claim x.ops c.args.op.now)) c.self.view_is
    (c.check_write.ensures held.shelved (are_apart c.self.inside.table.ops held.apart.kept.moments held.apart.kept.ends (held.apart.kept.writes held.apart.one_writer)) held.apart.kept.ids)
