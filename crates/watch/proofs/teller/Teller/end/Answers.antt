use Rattle.std.proofs.Common.{ap}
use Rattle.watch.specs.Due.{held_notices}
use Rattle.watch.proofs.Telling.{not_going, told_all_of, told_due_by}
use Rattle.watch.proofs.teller.Teller.end.Goals as goal
use Rattle.watch.proofs.teller.Teller.end.Goals.{in-Going, in-Stopped}

pub returns-clause-all : goal.returns-clause-all
returns-clause-all g c =
    let is = c.self.invariant in
    let inside = c.self.inside in
    elim c.match-state.branch [
      | in-Going w ↦
          let wrote = w.write_last-state in
          rw (c.into_output.ensures.contents, w.printer-is, w.state-is)
          (told_all_of g.B.Beginning.terms g.B.Beginning.registers g.B.Beginning.before wrote.new.self inside.told.items (held_notices wrote.new.held.items) c.args.finished wrote.result
          (told_due_by g.B.Beginning.terms g.B.Beginning.registers g.B.Beginning.before inside.printer wrote.new.self inside.told.items inside.held.items wrote.new.held.items inside.state wrote.result w.in-Going.is is.0 wrote.ensures.written)
          (λ over going. ap held_notices (wrote.ensures.all over going)))
      | in-Stopped w ↦
          rw (c.into_output.ensures.contents, w.printer-is, w.state-is)
          (told_all_of g.B.Beginning.terms g.B.Beginning.registers g.B.Beginning.before inside.printer inside.told.items (held_notices inside.held.items) c.args.finished inside.state
          is.0 (λ over going. absurd (not_going inside.state w.in-Stopped.is going)))
    ]
