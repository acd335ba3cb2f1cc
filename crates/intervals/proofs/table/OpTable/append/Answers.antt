use Rattle.std.proofs.Common.{◌≡◌, None, [], ◌∷◌, refl, sym, subst, ◌∙◌, length-append, arith}
use Rattle.intervals.specs.Table.{slot_of_id}
use Rattle.intervals.specs.declared.edit.Edit.TheVariants.{Append}
use Rattle.intervals.specs.Refusal.{first_refusal}
use Rattle.intervals.specs.Moments.{holder_at}
use Rattle.intervals.specs.Table.{TableModel, ops_in_slots}
use Rattle.intervals.proofs.Slots.{few_stand, standing_more}
use Rattle.intervals.proofs.Indexed.{indexed_appended}
use Rattle.intervals.proofs.table.OpTable.append.Goals as goal

pub overflow_add-self : goal.overflow_add-self
overflow_add-self c = omega (arith, few_stand c.self.inside.slots.items, c.self.invariant.1, c.self.inside.slots.ok.0)

pub invariant_of-self : goal.invariant_of-self
invariant_of-self c =
    let inside = c.self.inside in
    let at_end = c.len-place.ensures ∙ inside.slots.ok.0 in (
      rw c.push_reserved.ensures.items
          (indexed_appended inside.slots.items (slot_of_id inside.places) (holder_at inside.moments) c.self.invariant.0 c.args.op.now c.len-place.result _ _
          (subst (λ (t : TableModel). first_refusal t.ops (Append c.args.op.now) ≡ None) (sym c.self.view_is) c.requires.accepted) at_end c.put.ensures.values c.put_moments.ensures.holders),
      rw (c.push_reserved.ensures.items, standing_more) (omega (arith, length-append (ops_in_slots inside.slots.items) (c.args.op.now ∷ []), c.self.invariant.1)),
      c.put.ensures.order,
      c.put_moments.ensures.order,
      tt,
    )

pub returns : goal.returns
returns c = rw (c.push_reserved.ensures.items, standing_more, ← c.self.view_is) refl
