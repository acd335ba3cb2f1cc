use Rattle.std.proofs.Common.{◌∙◌, List, subst, sym, take_all}
use Rattle.merge_order.specs.declared.heads.TraceHead.{TraceHead}
use Rattle.merge_order.proofs.NextHead.{IsLeast, answers_next, answers_none, least_is_at, least_stays_at}
use Rattle.merge_order.proofs.heads.next_head.Goals.{After-loop-at, then-goes_before, else-goes_before}
use Rattle.merge_order.proofs.heads.next_head.Goals as goal

pub loop-at-preserved : goal.loop-at-preserved
loop-at-preserved c =
    elim c.if-goes_before.branch [
      | then-goes_before w ↦
          rw (w.next-is, w.least-is)
          (least_is_at c.args.heads.now c.loop-at.at c.loop-at.next c.loop-at.least c.loop-at-test.true c.loop-at.invariant (sym c.goes_before.ensures ∙ w.if-goes_before.true))
      | else-goes_before w ↦
          rw (w.next-is, w.least-is)
          (least_stays_at c.args.heads.now c.loop-at.at c.loop-at.next c.loop-at.least c.loop-at-test.true c.loop-at.invariant (sym c.goes_before.ensures ∙ w.if-goes_before.false))
    ]

-- at the end it is the least of all heads
of_all : (c : goal.After-loop-at) → IsLeast c.args.heads.now c.loop-at.next c.loop-at.least
of_all c = subst (λ (heads : List TraceHead). IsLeast heads c.loop-at.next c.loop-at.least) (take_all c.loop-at.at c.args.heads.now c.loop-at-test.false) c.loop-at.invariant

pub returns-clause-next : goal.returns-clause-next
returns-clause-next c = answers_next c.args.heads.now c.loop-at.next c.loop-at.least (of_all c)

pub returns-clause-none : goal.returns-clause-none
returns-clause-none c = answers_none c.args.heads.now c.loop-at.next c.loop-at.least (of_all c)
