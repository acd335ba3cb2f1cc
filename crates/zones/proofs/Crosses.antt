-- Clusters may cross threads, alone and as a field; their trees are given as found, so that the search ends.
use denote.Ref.{NamedLft}
use denote.Param.Send.{IsSend, IsSync, sendable}
use Rattle.std.proofs.Crossing.{crosses}
use Rattle.std.proofs.MapsCrossing.{crosses as maps}
use Rattle.intervals.proofs.table.OpTable.TheSendSync as table
use Rattle.intervals.proofs.claim.Claim.TheSendSync as claim
use Rattle.zone_tree.proofs.Crosses.{zones_field_send, zones_field_sync, stretches_field_send, stretches_field_sync}
use Rattle.zones.specs.contracts.register.Clusters.{the_row, the_field}

module _ (a : NamedLft) where
  pub field_send : IsSend (the_field a).row
  field_send = search (zones_field_send, stretches_field_send, table.the_send, claim.the_field_send, maps, crosses, sendable) depth 60 fits 20000

  pub send : IsSend (the_row a)
  send = search (zones_field_send, stretches_field_send, table.the_send, claim.the_field_send, maps, crosses, sendable) depth 60 fits 20000

  pub field_sync : IsSync (the_field a).row
  field_sync = search (zones_field_sync, stretches_field_sync, table.the_sync, claim.the_field_sync, maps, crosses, sendable) depth 60 fits 20000

  pub sync : IsSync (the_row a)
  sync = search (zones_field_sync, stretches_field_sync, table.the_sync, claim.the_field_sync, maps, crosses, sendable) depth 60 fits 20000
