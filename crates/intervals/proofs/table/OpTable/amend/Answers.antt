use Rattle.std.proofs.Common.{◌≡◌, List, Option, Some, None, refl, sym, ap, subst, ◌∙◌}
use Rattle.intervals.specs.declared.operation.Op.{Op}
use Rattle.intervals.specs.declared.edit.Edit.TheVariants.{Amend}
use Rattle.intervals.specs.Edit.{edited, new_op}
use Rattle.intervals.specs.Refusal.{moments_refusal}
use Rattle.intervals.specs.Table.{TableModel, admitted, slot_of_id, prepared_after, ops_in_slots}
use Rattle.intervals.specs.Moments.{holder_at}
use Rattle.intervals.proofs.Ids.{Decides-same_id_is}
use Rattle.intervals.proofs.Slots.{as_many}
use Rattle.intervals.proofs.Indexed.{none_in_slot, has_own_id, indexed_amended, standing_left}
use Rattle.intervals.proofs.table.OpTable.amend.Goals as goal

pub find_slot_from-requires-clause-placed : goal.find_slot_from-requires-clause-placed
find_slot_from-requires-clause-placed c i op e = c.self.invariant.0.placed i op (rw c.as_slice.ensures.value at e)

pub unreachable-requires : goal.unreachable-requires
unreachable-requires c =
    let inside = c.self.inside in
    let none = none_in_slot inside.slots.items (slot_of_id inside.places) (holder_at inside.moments) c.self.invariant.0 c.args.op.now.id
    (λ i e. rw (← c.as_slice.ensures.value) (c.in_default.ensures.none refl i e)) in
    let e = rw (← c.self.view_is, none) at c.requires.present in
    cc

pub move_moments-requires-clause-id : goal.move_moments-requires-clause-id
move_moments-requires-clause-id c =
    let inside = c.self.inside in
    let slot = rw c.as_slice.ensures.value at c.in-Some.ensures.slot in
    let own = has_own_id inside.slots.items (slot_of_id inside.places) (holder_at inside.moments) c.self.invariant.0 c.args.op.now.id c.in-Some.place c.in-Some.old.now c.in-Some.ensures.place slot in
    (Decides-same_id_is c.in-Some.old.now.id c.args.op.now.id).0 own

pub move_moments-requires-clause-room : goal.move_moments-requires-clause-room
move_moments-requires-clause-room c =
    let room = rw (← c.self.view_is) at c.requires.room in
    let held = rw room at c.self.invariant.4 in
    held.2

pub move_moments-requires-clause-held : goal.move_moments-requires-clause-held
move_moments-requires-clause-held c m t =
    let slot = rw c.as_slice.ensures.value at c.in-Some.ensures.slot in
    c.self.invariant.0.held c.in-Some.place c.in-Some.old.now m slot t

pub invariant_of-self : goal.invariant_of-self
invariant_of-self c =
    let inside = c.self.inside in
    let slot = rw c.as_slice.ensures.value at c.in-Some.ensures.slot in
    let own = has_own_id inside.slots.items (slot_of_id inside.places) (holder_at inside.moments) c.self.invariant.0 c.args.op.now.id c.in-Some.place c.in-Some.old.now c.in-Some.ensures.place slot in
    let accepted = subst (λ (t : TableModel). moments_refusal t.ops c.args.op.now ≡ None) (sym c.self.view_is) c.requires.accepted in (
      indexed_amended inside.slots.items (slot_of_id inside.places) (holder_at inside.moments) c.self.invariant.0 c.args.op.now c.in-Some.place c.in-Some.old.now _
          accepted ((Decides-same_id_is c.in-Some.old.now.id c.args.op.now.id).0 own) slot c.move_moments.ensures.holders,
      rw (as_many inside.slots.items c.in-Some.place c.in-Some.old.now c.args.op.now slot) c.self.invariant.1,
      c.self.invariant.2,
      c.move_moments.ensures.order,
      tt,
    )

pub returns : goal.returns
returns c id change asked =
    let inside = c.self.inside in
    let slot = rw c.as_slice.ensures.value at c.in-Some.ensures.slot in
    let left = subst (λ (t : TableModel). new_op t.ops (Amend id change) ≡ Some c.args.op.now) (sym c.self.view_is) asked in
    ap {B = TableModel} (λ (ops : List Op). record { ops = ops; prepared = None })
    (standing_left inside.slots.items (slot_of_id inside.places) (holder_at inside.moments) c.self.invariant.0 id change c.in-Some.place c.in-Some.old.now c.args.op.now c.in-Some.ensures.place slot left)
    ∙ (ap {B = TableModel} (λ (new : Option Op). record { ops = edited (ops_in_slots inside.slots.items) (Amend id change); prepared = prepared_after new inside.prepared }) (sym left)
    ∙ ap (λ (t : TableModel). admitted t (Amend id change)) c.self.view_is)
