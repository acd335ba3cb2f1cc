use Rattle.std.proofs.Common.{rules}
use Rattle.zones.proofs.Exchanged.{can_move_both, none_moved, first_has_room, first_is_new, first_moved, second_has_room, second_is_new, second_moved, second_keeps_room}
use Rattle.zones.proofs.moves.exchange.Goals as goal

pub move_zone-requires-clause-room : goal.move_zone-requires-clause-room
move_zone-requires-clause-room c = second_has_room c.args.before.now c.args.after.now (c.is_unchanged.ensures (search rules)) c.args.tree.now c.requires

pub move_zone-requires-clause-new : goal.move_zone-requires-clause-new
move_zone-requires-clause-new c = second_is_new c.args.before.now c.args.after.now (c.is_unchanged.ensures (search rules)) c.args.tree.now c.requires

pub move_zone-requires-in-false-true-clause-room : goal.move_zone-requires-in-false-true-clause-room
move_zone-requires-in-false-true-clause-room c = first_has_room c.args.before.now c.args.after.now (c.is_unchanged-2.ensures (search rules)) c.args.tree.now c.requires

pub move_zone-requires-in-false-true-clause-new : goal.move_zone-requires-in-false-true-clause-new
move_zone-requires-in-false-true-clause-new c = first_is_new c.args.before.now c.args.after.now (c.is_unchanged-2.ensures (search rules)) c.args.tree.now c.requires

pub move_both-requires : goal.move_both-requires
move_both-requires c = can_move_both c.args.before.now c.args.after.now c.args.tree.now c.requires

pub returns-in-true-true-clause-zones : goal.returns-in-true-true-clause-zones
returns-in-true-true-clause-zones c = none_moved c.args.before.now c.args.after.now (c.is_unchanged.ensures (search rules)) (c.is_unchanged-2.ensures (search rules)) c.args.tree.now.zones

pub returns-in-true-false-clause-zones : goal.returns-in-true-false-clause-zones
returns-in-true-false-clause-zones c =
    second_moved c.args.before.now c.args.after.now (c.is_unchanged.ensures (search rules)) c.args.tree.now.zones c.move_zone.new.tree.zones c.move_zone.ensures.zones

pub returns-in-true-false-clause-room : goal.returns-in-true-false-clause-room
returns-in-true-false-clause-room c needs =
    c.move_zone.ensures.room (second_keeps_room c.args.before.now c.args.after.now (c.is_unchanged.ensures (search rules)) c.args.tree.now.zones needs)

pub returns-in-false-true-clause-zones : goal.returns-in-false-true-clause-zones
returns-in-false-true-clause-zones c =
    first_moved c.args.before.now c.args.after.now (c.is_unchanged-2.ensures (search rules)) c.args.tree.now.zones c.move_zone-in-false-true.new.tree.zones c.move_zone-in-false-true.ensures.zones
