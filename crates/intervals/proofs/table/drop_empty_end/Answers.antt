use Rattle.std.proofs.Common.{Some, ap, sym, ◌∙◌, arith}
use Rattle.intervals.proofs.Slots.{empty_popped}
use Rattle.intervals.proofs.table.drop_empty_end.Goals as goal

pub loop-slots-preserved : goal.loop-slots-preserved
loop-slots-preserved c =
    let last = rw c.deref.ensures.value at (sym c.in-Some-None.ensures.value ∙ ap Some c.in-Some-None.field-0-is) in
    let kept = empty_popped c.loop-slots.slots.items c.pop.new.self.items c.pop.result c.pop.ensures.items last in
    record {
      same = kept.0 ∙ c.loop-slots.invariant.same;
      at = λ i. kept.1 i ∙ c.loop-slots.invariant.at i;
      len = omega (arith, c.pop.ensures.len);
      capacity = c.pop.ensures.capacity ∙ c.loop-slots.invariant.capacity;
    }
