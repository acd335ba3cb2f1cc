use Rattle.std.proofs.Common.{◌≡◌, ◌+◌, length, vec_len, sym, subst, true, List, arith, rules}
use Rattle.watch.specs.declared.settling.Held.{Held}
use Rattle.watch.specs.declared.teller.TellerState.TheVariants.{Going}
use Rattle.watch.specs.Due.{has_due, held_notices}
use Rattle.watch.specs.Teller.{HasTold, WritesOn}
use Rattle.watch.proofs.Advancing.{due_more, due_one}
use Rattle.watch.proofs.Telling.{one_less, written_next, written_on}
use Rattle.watch.proofs.printer.Printer.write_due.Goals as goal

pub returns-then-not-is_going-clause-written : goal.returns-then-not-is_going-clause-written
returns-then-not-is_going-clause-written g c =
    written_next g.B.Beginning.terms g.B.Beginning.registers c.args.held.now.items c.loop.held.items c.write_first-state.new.held.items c.write_first-state.result c.args.self.now c.loop.self c.write_first-state.new.self
    c.loop.invariant.2 c.write_first-state.ensures.written

pub returns-then-not-is_going-clause-due : goal.returns-then-not-is_going-clause-due
returns-then-not-is_going-clause-due g c =
    let due : has_due c.loop.held.items c.args.progress.now ≡ true = subst (λ (l : List Held). has_due l c.args.progress.now ≡ true) c.as_slice.ensures.value (sym c.if-not-has_due.ensures.due) in
    due_more c.args.progress.now c.args.held.now.items c.loop.held.items c.write_first-state.new.held.items c.loop.invariant.1
    (due_one c.args.progress.now c.loop.held.items c.write_first-state.new.held.items due c.write_first-state.ensures.first)

pub loop-preserved : goal.loop-preserved
loop-preserved g c =
    let due : has_due c.loop.held.items c.args.progress.now ≡ true = subst (λ (l : List Held). has_due l c.args.progress.now ≡ true) c.as_slice.ensures.value (sym c.if-not-has_due.ensures.due) in
    let going : c.write_first-state.result ≡ Going = c.is_going.ensures.0 c.if-not-is_going.false in
    let many : length c.loop.held.items ≡ vec_len c.loop.held = search rules in
    let left : length c.write_first-state.new.held.items ≡ vec_len c.write_first-state.new.held = search rules in
    let less : length c.loop.held.items ≡ 1 + length c.write_first-state.new.held.items =
    one_less c.loop.held.items c.write_first-state.new.held.items c.write_first-state.result (λ written. WritesOn g.B.Beginning.terms g.B.Beginning.registers (held_notices written) c.write_first-state.result c.loop.self c.write_first-state.new.self)
    (subst HasTold (sym going) tt) c.write_first-state.ensures.written in (
      omega (arith, c.loop.invariant.0, many, left, less),
      due_more c.args.progress.now c.args.held.now.items c.loop.held.items c.write_first-state.new.held.items c.loop.invariant.1
          (due_one c.args.progress.now c.loop.held.items c.write_first-state.new.held.items due c.write_first-state.ensures.first),
      written_on g.B.Beginning.terms g.B.Beginning.registers c.args.held.now.items c.loop.held.items c.write_first-state.new.held.items c.write_first-state.result c.args.self.now c.loop.self c.write_first-state.new.self
          going c.loop.invariant.2 c.write_first-state.ensures.written,
    )
