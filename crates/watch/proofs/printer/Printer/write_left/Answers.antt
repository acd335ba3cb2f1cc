use Rattle.std.proofs.Common.{◌≡◌, ◌+◌, length, vec_len, sym, subst, arith, rules}
use Rattle.watch.specs.declared.teller.TellerState.TheVariants.{Going}
use Rattle.watch.specs.Teller.{HasTold, WritesOn}
use Rattle.watch.specs.Due.{held_notices}
use Rattle.watch.proofs.Telling.{one_less, written_next, written_on}
use Rattle.watch.proofs.printer.Printer.write_left.Goals as goal

pub returns-then-not-is_going-clause-written : goal.returns-then-not-is_going-clause-written
returns-then-not-is_going-clause-written g c =
    written_next g.B.Beginning.terms g.B.Beginning.registers c.args.held.now.items c.loop.held.items c.write_first-state.new.held.items c.write_first-state.result c.args.self.now c.loop.self c.write_first-state.new.self
    c.loop.invariant.1 c.write_first-state.ensures.written

pub loop-preserved : goal.loop-preserved
loop-preserved g c =
    let going : c.write_first-state.result ≡ Going = c.is_going.ensures.0 c.if-not-is_going.false in
    let many : length c.loop.held.items ≡ vec_len c.loop.held = search rules in
    let left : length c.write_first-state.new.held.items ≡ vec_len c.write_first-state.new.held = search rules in
    let less : length c.loop.held.items ≡ 1 + length c.write_first-state.new.held.items =
    one_less c.loop.held.items c.write_first-state.new.held.items c.write_first-state.result (λ written. WritesOn g.B.Beginning.terms g.B.Beginning.registers (held_notices written) c.write_first-state.result c.loop.self c.write_first-state.new.self)
    (subst HasTold (sym going) tt) c.write_first-state.ensures.written in (
      omega (arith, c.loop.invariant.0, many, left, less),
      written_on g.B.Beginning.terms g.B.Beginning.registers c.args.held.now.items c.loop.held.items c.write_first-state.new.held.items c.write_first-state.result c.args.self.now c.loop.self c.write_first-state.new.self
          going c.loop.invariant.1 c.write_first-state.ensures.written,
    )
