use Rattle.std.proofs.Common.{◌≡◌, ◌∙◌, ℕ, Option, Some, None, sym, subst}
use Rattle.intervals.specs.declared.operation.Op.{Op}
use Rattle.intervals.specs.Judging.{end_number}
use Rattle.intervals.specs.Terms.{terms_of}
use Rattle.safe_regular.specs.Rows.{IsEndOf}
use Rattle.safe_regular.proofs.Rows.{judged_those}
use Rattle.safe_regular.proofs.judged.JudgedReads.judge_end.Goals as goal

own_end : (o : Option Op) (p : Op) (n number : ℕ) → o ≡ Some p → number ≡ end_number p → IsEndOf o n → n ≡ number
own_end None p n number e is of_op = absurd (cc)
own_end (Some q) p n number e is of_op = let same : q ≡ p = cc in let end = of_op.1 in sym end ∙ subst (λ (x : Op). end_number x ≡ number) (sym same) (sym is)

pub returns-then-is_judged_read-clause-judged : goal.returns-then-is_judged_read-clause-judged
returns-then-is_judged_read-clause-judged c ok are apart up =
    judged_those (terms_of c.args.claim.now) c.args.table.now.ops (λ (n : ℕ). n ≡ c.end_number.result) (IsEndOf c.args.op.now) c.args.self.now.rows.items c.judge_at.new.self.rows.items (c.judge_at.ensures.judged ok are apart up)
    (λ y h of_op. own_end c.args.op.now c.in-Some.op y.end.0 c.end_number.result c.in-Some.is c.end_number.ensures of_op)
