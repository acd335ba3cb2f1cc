use Rattle.std.proofs.Common.{◌↔◌, subst}
use Rattle.std.specs.Prelude.{IsTrue}
use Rattle.intervals.specs.Kind.{Holds}
use Rattle.intervals.specs.Terms.{terms_of, state_of}
use Rattle.safe_regular.specs.Held.{JudgeModel}
use Rattle.safe_regular.proofs.Named.{holds_where_none}
use Rattle.safe_regular.proofs.judge.SingleWriterJudge.holds.Goals as goal

pub returns : goal.returns
returns c =
    let claim = terms_of c.self.inside.claim in
    let ops = c.self.inside.table.ops in
    let held = c.self.invariant in
    subst (λ (x : JudgeModel). IsTrue c.holds.result ↔ Holds (state_of x.claim x.ops)) c.self.view_is
    (holds_where_none claim ops held.apart.one_writer (c.safe_without_wrong_reads.ensures claim ops) (c.regular_without_wrong_reads.ensures claim ops) c.holds.result (c.holds.ensures claim ops held.apart held.laid))
