use Rattle.intervals.specs.Table.{ops_in_slots}
use Rattle.timeline.proofs.Choosing.{chosen_by, hidden_rise, shown_rise}
use Rattle.timeline.proofs.choice.choose.Goals as goal

pub returns : goal.returns
returns c =
    let is =
    chosen_by (ops_in_slots c.args.slots.now) c.args.ids.now c.args.extent c.in_ok-ops.ops.items c.deref.result.now c.deref-2.result.now c.deref-3.result.now c.in_ok-centres.centres.items c.in_ok-chosen.chosen c.in_ok-ops.ensures c.deref.ensures.value c.deref-2.ensures.value c.in_ok-centres.ensures c.deref-3.ensures.value c.in_ok-chosen.ensures.shown c.in_ok-chosen.ensures.hidden in
    record {
      chosen = is;
      shown = shown_rise (ops_in_slots c.args.slots.now) c.args.ids.now c.args.extent c.in_ok-chosen.chosen is;
      hidden = hidden_rise (ops_in_slots c.args.slots.now) c.args.ids.now c.args.extent c.in_ok-chosen.chosen is;
    }
