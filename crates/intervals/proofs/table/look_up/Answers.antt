use Rattle.std.proofs.Common.{◌≡◌, ap, sym, ◌∙◌}
use Rattle.intervals.specs.Edit.{found_by}
use Rattle.intervals.specs.Table.{ops_in_slots, slot_of_id}
use Rattle.intervals.proofs.Indexed.{found_or_none}
use Rattle.intervals.proofs.table.look_up.Goals as goal

pub returns-clause-found : goal.returns-clause-found
returns-clause-found c holder indexed =
    found_or_none c.args.slots.now (slot_of_id c.args.places.now) holder indexed c.in_ok-id.field-0 c.find_slot.result c.find_slot.ensures.place c.find_slot.ensures.slot c.find_slot.ensures.none
    ∙ ap (found_by (ops_in_slots c.args.slots.now)) (sym c.in_ok-id.was)
