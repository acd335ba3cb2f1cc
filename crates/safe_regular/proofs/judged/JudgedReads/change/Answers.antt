use Rattle.intervals.specs.Terms.{terms_of}
use Rattle.safe_regular.proofs.RowsAfter.{judged_after}
use Rattle.safe_regular.proofs.judged.JudgedReads.change.Goals as goal

pub returns-clause-judged : goal.returns-clause-judged
returns-clause-judged c found are ops change judged =
    judged_after (terms_of c.args.claim.now) ops c.args.table.now.ops c.args.old.now c.args.new.now change
    c.args.self.now c.put.new.self c.judge_ends.new.self c.judge_from.new.self c.find_first.new.self judged c.first_changed-from.result c.first_changed-from.ensures
    (c.put.ensures.rising judged.rising) (c.put.ensures.rows c.if-not-put.false judged.rising) (c.put.ensures.front judged.front) c.put.ensures.later (c.put.ensures.latest c.if-not-put.false)
    c.judge_ends.ensures.kept (λ apart up. c.judge_ends.ensures.judged c.if-not-judge_ends.false are apart up)
    c.judge_from.ensures.kept (λ apart up. c.judge_from.ensures.judged c.if-not-judge_from.false are apart up)
    c.find_first.ensures.rows c.find_first.ensures.latest c.find_first.ensures.front (c.find_first.ensures.first found)
