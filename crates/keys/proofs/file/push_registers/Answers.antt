use Rattle.std.proofs.Common.{[], ◌<◌, ℕ, None, arith, subst}
use Rattle.keys.specs.File.{register_entry}
use Rattle.keys.specs.Named.{registers_named}
use Rattle.keys.proofs.Lines.{one_more_line}
use Rattle.keys.proofs.file.push_registers.Goals as goal

pub loop-number-preserved : goal.loop-number-preserved
loop-number-preserved c = record {
  within = omega (arith, c.loop-number-test.true);
  added = one_more_line (register_entry c.args.claim.now) (registers_named c.args.named.now) c.loop-number.number (record { name = []; writer = None }) c.args.text.now.items c.loop-number.text.items c.push_entry.new.text.items (subst (λ (many : ℕ). c.loop-number.number < many) c.registers-number-end.ensures c.loop-number-test.true) c.loop-number.invariant.added c.in_ok-push_entry.ensures;
}
