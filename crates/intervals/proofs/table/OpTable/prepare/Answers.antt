use Rattle.std.proofs.Common.{arith, refl, ap, ◌∙◌}
use Rattle.intervals.specs.Moments.{holder_at}
use Rattle.intervals.specs.Table.{TableModel, slot_of_id, slot_at}
use Rattle.intervals.proofs.Indexed.{indexed_alike}
use Rattle.intervals.proofs.table.OpTable.prepare.Goals as goal

pub invariant_of-self-in_err-reserve-2 : goal.invariant_of-self-in_err-reserve-2
invariant_of-self-in_err-reserve-2 c =
    let inside = c.self.inside in (
      indexed_alike (slot_at inside.slots.items) _ (slot_of_id inside.places) _ (holder_at inside.moments) _ c.self.invariant.0
          (λ i. ap (λ slots. slot_at slots i) c.reserve.ensures.items) c.reserve-2.ensures.values (λ m. refl),
      rw c.reserve.ensures.items c.self.invariant.1,
      c.reserve-2.ensures.order c.self.invariant.2,
      c.self.invariant.3,
      rw (ap (λ (t : TableModel). t.prepared) c.self.view_is ∙ c.requires) tt,
    )

pub invariant_of-self-in_err-reserve-3 : goal.invariant_of-self-in_err-reserve-3
invariant_of-self-in_err-reserve-3 c =
    let inside = c.self.inside in (
      indexed_alike (slot_at inside.slots.items) _ (slot_of_id inside.places) _ (holder_at inside.moments) _ c.self.invariant.0
          (λ i. ap (λ slots. slot_at slots i) c.reserve.ensures.items) c.reserve-2.ensures.values c.reserve-3.ensures.values,
      rw c.reserve.ensures.items c.self.invariant.1,
      c.reserve-2.ensures.order c.self.invariant.2,
      c.reserve-3.ensures.order c.self.invariant.3,
      rw (ap (λ (t : TableModel). t.prepared) c.self.view_is ∙ c.requires) tt,
    )

pub invariant_of-self-2 : goal.invariant_of-self-2
invariant_of-self-2 c =
    let inside = c.self.inside in (
      indexed_alike (slot_at inside.slots.items) _ (slot_of_id inside.places) _ (holder_at inside.moments) _ c.self.invariant.0
          (λ i. ap (λ slots. slot_at slots i) c.reserve.ensures.items) c.reserve-2.ensures.values c.reserve-3.ensures.values,
      rw c.reserve.ensures.items c.self.invariant.1,
      c.reserve-2.ensures.order c.self.invariant.2,
      c.reserve-3.ensures.order c.self.invariant.3,
      (omega (arith, c.in_ok-reserve.ensures.ok), c.in_ok-reserve-2.ensures.ok, c.in_ok-reserve-3.ensures.ok),
    )
