use Rattle.std.proofs.Common.{◌≡◌, subst}
use Rattle.intervals.specs.Judging.{first_wrong}
use Rattle.intervals.specs.Terms.{terms_of}
use Rattle.safe_regular.specs.Held.{JudgeModel}
use Rattle.safe_regular.proofs.judge.SingleWriterJudge.first_wrong.Goals as goal

pub returns : goal.returns
returns c =
    let held = c.self.invariant in
    subst (λ (x : JudgeModel). c.first_wrong.result ≡ first_wrong x.claim x.ops) c.self.view_is (c.first_wrong.ensures (terms_of c.self.inside.claim) held.apart held.laid)
