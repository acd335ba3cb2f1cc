use Rattle.std.proofs.Common.{◌∙◌, ap, arith, refl}
use Rattle.std.specs.HashMap.{get}
use Rattle.intervals.specs.declared.operation.Op.{Op}
use Rattle.intervals.specs.Operation.{same_id}
use Rattle.intervals.specs.Table.{ops_in_slots}
use Rattle.show.specs.Label.{label_by}
use Rattle.show.specs.Rank.{rank_of}
use Rattle.show.specs.Scene.{asked_ids, extent_of}
use Rattle.show.proofs.Scenes.{map_alike, shown_and_hidden}
use Rattle.show.proofs.scene.scene_of.Goals as goal

pub returns : goal.returns
returns c =
    let ops = ops_in_slots c.args.subject.now.slots.now in
    let order = c.args.subject.now.order.now in
    let letters = c.in_ok-letters.letters.items in
    let places = c.in_ok-places.places in
    let witness = c.args.subject.now.witness in
    let around = c.in_ok-around.around in
    let chosen = c.in_ok-chosen.chosen in
    let choice = rw (c.deref-2.ensures.value, c.in_ok-asked.ensures, c.deref.ensures.value, c.extent_of-extent.ensures) at c.in_ok-chosen.ensures.chosen in
    record {
      witness = refl;
      around = c.in_ok-around.ensures;
      letters = c.in_ok-letters.ensures;
      chosen = chosen;
      choice = choice;
      shown = refl;
      ranks = (rw c.deref-9.ensures.value at c.in_ok-ranks.ensures) ∙ map_alike (λ (op : Op). get same_id places op.id) (λ (op : Op). rank_of order op.id) (λ op. c.in_ok-places.ensures op.id) chosen.shown.items;
      labels =
          (rw (c.deref-10.ensures.value, c.deref-11.ensures.value) at c.in_ok-labels.ensures)
          ∙ map_alike (λ (op : Op). label_by letters (get same_id places op.id) op) (λ (op : Op). label_by letters (rank_of order op.id) op) (λ op. ap (λ rank. label_by letters rank op) (c.in_ok-places.ensures op.id)) chosen.shown.items;
      marks = rw c.deref-3.ensures.value at c.in_ok-marks.ensures;
      front = rw c.deref-12.ensures.value at c.in_ok-front.ensures;
      moments = rw (c.deref-13.ensures.value, c.as_str.ensures.value) at c.in_ok-moments.ensures;
      spans = rw (c.deref-4.ensures.value, c.deref-5.ensures.value) at c.in_ok-spans.ensures;
      folded = rw (c.deref-6.ensures.value, c.deref-7.ensures.value) at c.in_ok-folded.ensures;
      seats = rw c.deref-8.ensures.value at c.in_ok-seats.ensures;
      all = let both = shown_and_hidden ops (asked_ids ops witness around letters) (extent_of witness c.args.extent) chosen choice in omega (arith, c.len.ensures, c.len-2.ensures, both);
    }
