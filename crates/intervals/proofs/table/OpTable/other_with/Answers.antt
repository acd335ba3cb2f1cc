use Rattle.std.proofs.Common.{ap, sym, ◌∙◌}
use Rattle.intervals.specs.Table.{slot_of_id}
use Rattle.intervals.specs.Moments.{holder_at}
use Rattle.intervals.specs.Table.{TableModel}
use Rattle.intervals.proofs.Indexed.{other_is}
use Rattle.intervals.proofs.table.OpTable.other_with.Goals as goal

pub returns-in_err-holder : goal.returns-in_err-holder
returns-in_err-holder c =
    let inside = c.self.inside in
    let e = other_is inside.slots.items (slot_of_id inside.places) (holder_at inside.moments) c.self.invariant.0 c.args.id c.args.moment c.get.result c.args.self.now.ops c.get.ensures (ap (λ (t : TableModel). t.ops) c.self.view_is) in
    c.from_residual.ensures ∙ rw c.in_err-holder.was at e

pub returns-then-eq : goal.returns-then-eq
returns-then-eq c =
    let inside = c.self.inside in
    let e = other_is inside.slots.items (slot_of_id inside.places) (holder_at inside.moments) c.self.invariant.0 c.args.id c.args.moment c.get.result c.args.self.now.ops c.get.ensures (ap (λ (t : TableModel). t.ops) c.self.view_is) in
    let same = sym c.eq.ensures ∙ c.if-eq.true in
    rw same at (rw c.in_ok-holder.was at e)

pub returns-else-eq : goal.returns-else-eq
returns-else-eq c =
    let inside = c.self.inside in
    let e = other_is inside.slots.items (slot_of_id inside.places) (holder_at inside.moments) c.self.invariant.0 c.args.id c.args.moment c.get.result c.args.self.now.ops c.get.ensures (ap (λ (t : TableModel). t.ops) c.self.view_is) in
    let other = sym c.eq.ensures ∙ c.if-eq.false in
    rw other at (rw c.in_ok-holder.was at e)
