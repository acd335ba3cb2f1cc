use Rattle.std.proofs.Common.{refl, arith, set, None}
use Rattle.intervals.specs.Table.{slot_of_id}
use Rattle.intervals.specs.Moments.{holder_at}
use Rattle.intervals.specs.Table.{slot_at}
use Rattle.intervals.proofs.Slots.{standing_without, one_less}
use Rattle.intervals.proofs.Indexed.{none_in_slot, has_own_id, only_there, indexed_without, indexed_alike, if_some}
use Rattle.intervals.proofs.table.OpTable.withdraw.Goals as goal

pub find_slot_from-requires-clause-placed : goal.find_slot_from-requires-clause-placed
find_slot_from-requires-clause-placed c i op e = c.self.invariant.0.placed i op (rw c.as_slice.ensures.value at e)

pub unreachable-requires : goal.unreachable-requires
unreachable-requires c =
    let inside = c.self.inside in
    let none = none_in_slot inside.slots.items (slot_of_id inside.places) (holder_at inside.moments) c.self.invariant.0 c.args.id
    (λ i e. rw (← c.as_slice.ensures.value) (c.in_default.ensures.none refl i e)) in
    let e = rw (← c.self.view_is, none) at c.requires in
    cc

pub invariant_of-self : goal.invariant_of-self
invariant_of-self c =
    let inside = c.self.inside in
    let slot = rw c.as_slice.ensures.value at c.in-Some.ensures.slot in
    let indexed = indexed_without inside.slots.items (slot_of_id inside.places) (holder_at inside.moments) c.self.invariant.0 c.args.id c.in-Some.place c.in-Some.op.now
    (slot_of_id c.remove.new.self) (holder_at c.take_moments.new.moments) c.in-Some.ensures.place slot c.remove.ensures.values c.take_moments.ensures.holders in (
      indexed_alike (slot_at (set inside.slots.items c.in-Some.place None)) _ (slot_of_id c.remove.new.self) _ (holder_at c.take_moments.new.moments) _ indexed
          c.drop_empty_end.ensures.slots (λ id. refl) (λ m. refl),
      rw c.drop_empty_end.ensures.standing (omega (arith, one_less inside.slots.items c.in-Some.place c.in-Some.op.now slot, c.self.invariant.1)),
      c.remove.ensures.order,
      c.take_moments.ensures.order,
      if_some _ _ (λ op room. (omega (arith, room.0, c.drop_empty_end.ensures.len, c.drop_empty_end.ensures.capacity), c.remove.ensures.kept 1 room.1, c.take_moments.ensures.kept 2 room.2)) inside.prepared c.self.invariant.4,
    )

pub returns : goal.returns
returns c =
    let inside = c.self.inside in
    let slot = rw c.as_slice.ensures.value at c.in-Some.ensures.slot in
    let own = has_own_id inside.slots.items (slot_of_id inside.places) (holder_at inside.moments) c.self.invariant.0 c.args.id c.in-Some.place c.in-Some.op.now c.in-Some.ensures.place slot in
    let only = only_there inside.slots.items (slot_of_id inside.places) (holder_at inside.moments) c.self.invariant.0 c.args.id c.in-Some.place c.in-Some.op.now c.in-Some.ensures.place slot in
    rw (c.drop_empty_end.ensures.standing, standing_without inside.slots.items c.in-Some.place c.in-Some.op.now c.args.id slot own only, ← c.self.view_is) refl
