use Rattle.intervals.specs.Terms.{terms_of}
use Rattle.safe_regular.specs.Rows.{IsEndOf}
use Rattle.safe_regular.proofs.Rows.{judged_both, kept_both, kept_rising}
use Rattle.safe_regular.proofs.judged.JudgedReads.judge_ends.Goals as goal

pub returns-clause-kept : goal.returns-clause-kept
returns-clause-kept c = kept_both c.args.self.now c.judge_end.new.self c.judge_end-2.new.self c.judge_end.ensures.kept c.judge_end-2.ensures.kept

pub returns-clause-judged : goal.returns-clause-judged
returns-clause-judged c ok are apart up =
    judged_both (terms_of c.args.claim.now) c.args.table.now.ops (IsEndOf c.args.old.now) (IsEndOf c.args.new.now) c.args.self.now.rows.items c.judge_end.new.self.rows.items c.judge_end-2.new.self.rows.items
    (c.judge_end.ensures.judged c.if-not-judge_end.false are apart up)
    (c.judge_end-2.ensures.judged ok are apart (kept_rising c.args.self.now c.judge_end.new.self c.judge_end.ensures.kept up))
