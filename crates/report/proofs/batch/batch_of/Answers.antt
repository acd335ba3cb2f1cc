use Rattle.std.proofs.Common.{ℕ, length, subst, arith}
use Rattle.report.specs.Batch.{IsBatch, first_register}
use Rattle.report.proofs.batch.batch_of.Goals as goal

pub returns : goal.returns
returns c =
    let many = length c.args.tower.now.registers in
    subst (λ (last : ℕ). IsBatch c.args.tower.now c.args.closed.now (first_register many c.args.number) last c.loop-register.batch)
    (omega (arith, c.loop-register.invariant.within, c.loop-register-test.false, c.first-register-end.ensures.number))
    c.loop-register.invariant.batch
