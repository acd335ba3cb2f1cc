use Rattle.std.proofs.Common.{refl, sym}
use Rattle.intervals.specs.Table.{slot_of_id}
use Rattle.intervals.specs.Moments.{holder_at}
use Rattle.intervals.proofs.Indexed.{found_in_slot, none_in_slot}
use Rattle.intervals.proofs.table.OpTable.get.Goals as goal

pub returns-in_err-op : goal.returns-in_err-op
returns-in_err-op c =
    let inside = c.self.inside in
    let none = none_in_slot inside.slots.items (slot_of_id inside.places) (holder_at inside.moments) c.self.invariant.0 c.args.id
    (λ i e. rw (← c.as_slice.ensures.value) (c.in_err-op.ensures.none refl i e)) in
    rw (c.from_residual.ensures, ← c.self.view_is) (sym none)

pub returns : goal.returns
returns c =
    let inside = c.self.inside in
    let found = found_in_slot inside.slots.items (slot_of_id inside.places) (holder_at inside.moments) c.self.invariant.0 c.args.id c.in_ok-op.field-0-0 c.in_ok-op.op.now
    c.in_ok-op.ensures.place (rw (← c.as_slice.ensures.value) c.in_ok-op.ensures.slot) in
    rw (← c.self.view_is) (sym found)
