use Rattle.std.proofs.Common.{sym, ◌∙◌}
use Rattle.intervals.proofs.Overlapping.{overlap_of_none, overlap_none, overlap_found, reached_next}
use Rattle.intervals.proofs.table.OpTable.first_in_turn.Goals as goal

pub returns-in_err-write : goal.returns-in_err-write
returns-in_err-write c =
    let asked = c.requires in
    c.from_residual.ensures ∙ sym (overlap_of_none c.args.self.now.ops asked.ids asked.moments asked.ends c.in_err-write.ensures)

pub returns-then-not-precedes : goal.returns-then-not-precedes
returns-then-not-precedes c =
    let asked = c.requires in
    sym (overlap_found c.args.self.now.ops asked.ids asked.moments asked.ends c.loop-next.write c.in-Some.next c.loop-next.invariant c.in-Some.ensures
    (sym c.precedes.ensures.test ∙ c.if-not-precedes.true))

pub loop-next-preserved : goal.loop-next-preserved
loop-next-preserved c =
    let asked = c.requires in
    reached_next c.args.self.now.ops asked.ids asked.moments asked.ends c.loop-next.write c.in-Some.next c.loop-next.invariant c.in-Some.ensures
    (sym c.precedes.ensures.test ∙ c.if-not-precedes.false)

pub returns : goal.returns
returns c =
    let asked = c.requires in
    sym (overlap_none c.args.self.now.ops asked.ids asked.moments asked.ends c.loop-next.write c.loop-next.invariant c.in_default.ensures)
