use Rattle.std.proofs.Common.{Option, subst}
use Rattle.std.specs.Prelude.{IfSome}
use Rattle.intervals.specs.Terms.{terms_of}
use Rattle.safe_regular.specs.declared.judged.JudgedReads.{JudgedReads}
use Rattle.safe_regular.specs.Rows.{AreJudged}
use Rattle.safe_regular.proofs.reads.judge_again.Goals as goal

pub returns-then-change-clause-judged : goal.returns-then-change-clause-judged
returns-then-change-clause-judged c ops change are =
    c.change.ensures.judged c.if-change.true c.requires.judged.shelved ops change (subst (λ (o : Option JudgedReads). IfSome o (AreJudged (terms_of c.args.claim.now) ops)) c.in-Some.is are)
