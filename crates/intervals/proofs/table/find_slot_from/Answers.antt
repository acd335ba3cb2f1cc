use Rattle.std.proofs.Common.{◌≡◌, true, Some, ap, rules, sym, ◌∙◌}
use Rattle.intervals.specs.Operation.{same_id}
use Rattle.intervals.specs.Table.{slot_of_id, slot_at}
use Rattle.intervals.proofs.Ids.{Decides-same_id_is}
use Rattle.intervals.proofs.table.find_slot_from.Goals as goal

pub returns-then-has_id-clause-place : goal.returns-then-has_id-clause-place
returns-then-has_id-clause-place c =
    let op = c.in-Some-Some.op in
    let slot : slot_at c.args.slots.now c.args.first ≡ Some op = search rules in
    let own : same_id op.id c.args.id ≡ true = search rules in
    ap (slot_of_id c.args.places.now) (sym ((Decides-same_id_is op.id c.args.id).0 own)) ∙ c.requires.placed c.args.first op slot
