use Rattle.std.proofs.Common.{◌≡◌, inl, refl, length, vec_len, rules}
use Rattle.watch.proofs.Advancing.{first_removed}
use Rattle.watch.proofs.Telling.{written_first, written_not}
use Rattle.watch.proofs.printer.Printer.write_first.Goals as goal

pub returns-then-has_told-clause-written : goal.returns-then-has_told-clause-written
returns-then-has_told-clause-written g c =
    let many : length c.args.held.now.items ≡ vec_len c.args.held.now = search rules in
    written_first g.B.Beginning.terms g.B.Beginning.registers c.args.held.now.items c.remove.new.self.items c.index.result.now c.notice.result c.write_one-state.result c.args.self.now c.write_one-state.new.self
    (rw many c.requires.some) c.index.ensures c.notice.ensures c.remove.ensures.items (c.has_told.ensures.0 c.if-has_told.true) c.write_one-state.ensures.told

pub returns-then-has_told-clause-first : goal.returns-then-has_told-clause-first
returns-then-has_told-clause-first g c =
    let many : length c.args.held.now.items ≡ vec_len c.args.held.now = search rules in
    first_removed c.args.held.now.items c.remove.new.self.items (rw many c.requires.some) c.remove.ensures.items

pub returns-else-has_told-clause-written : goal.returns-else-has_told-clause-written
returns-else-has_told-clause-written g c =
    written_not g.B.Beginning.terms g.B.Beginning.registers c.args.held.now.items c.write_one-state.result c.args.self.now c.write_one-state.new.self
    (λ told. absurd (let h = c.has_told.ensures.1 told in let f = c.if-has_told.false in cc)) c.write_one-state.ensures.none

pub returns-else-has_told-clause-first : goal.returns-else-has_told-clause-first
returns-else-has_told-clause-first g c =
    inl refl
