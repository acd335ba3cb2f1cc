use Rattle.std.proofs.Common.{arith, refl}
use Rattle.keys.specs.Named.{registers_named}
use Rattle.keys.specs.Tower.{register_of_named}
use Rattle.keys.proofs.Alike.{all_alike}
use Rattle.keys.proofs.tower.has_registers.Goals as goal

pub returns : goal.returns
returns c = (
  λ yes.
      all_alike (register_of_named c.args.claim.now) c.args.tower.now.registers (registers_named c.args.named.now)
      (omega (arith, c.if-len-registers.false, c.len.ensures.length, c.registers.ensures))
      (λ n within. c.loop-number.invariant n (omega (arith, within, c.loop-number-test.false, c.loop-number.auto.number-end, c.len-number-end.ensures.length, c.len-number-end.ensures.most))),
  λ are. refl,
)
