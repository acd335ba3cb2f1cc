-- Trees of zones and of stretches may cross threads, alone and as fields.
use denote.Param.Send.{IsSend, IsSync, sendable}
use Rattle.std.proofs.Crossing.{crosses}
use Rattle.summary_tree.proofs.Crosses.{tree_send, tree_sync}
use Rattle.zone_tree.specs.contracts.tree.ZoneTree as zones
use Rattle.zone_tree.specs.contracts.stretch_tree.StretchTree as stretches

pub zones_field_send : IsSend zones.the_field.row
zones_field_send = search (tree_send, crosses, sendable) depth 60 fits 20000

pub zones_field_sync : IsSync zones.the_field.row
zones_field_sync = search (tree_sync, crosses, sendable) depth 60 fits 20000

pub stretches_field_send : IsSend stretches.the_field.row
stretches_field_send = search (tree_send, crosses, sendable) depth 60 fits 20000

pub stretches_field_sync : IsSync stretches.the_field.row
stretches_field_sync = search (tree_sync, crosses, sendable) depth 60 fits 20000
