-- A single writer's judge may cross threads, alone and as a field; the search ends by the proof of its tree.
use denote.Ref.{NamedLft}
use denote.Param.Send.{IsSend, IsSync, sendable}
use Rattle.std.proofs.Crossing.{crosses}
use Rattle.std.proofs.MapsCrossing.{crosses as maps}
use Rattle.intervals.proofs.table.OpTable.TheSendSync as table
use Rattle.intervals.proofs.claim.Claim.TheSendSync as claim
use Rattle.read_tree.proofs.Crosses as tree
use Rattle.safe_regular.specs.contracts.judge.SingleWriterJudge.{the_row, the_field}

module _ (a : NamedLft) where
  pub field_send : IsSend (the_field a).row
  field_send = search (tree.field_send, table.the_send, claim.the_field_send, maps, crosses, sendable) depth 60 fits 20000

  pub send : IsSend (the_row a)
  send = search (tree.field_send, table.the_send, claim.the_field_send, maps, crosses, sendable) depth 60 fits 20000

  pub field_sync : IsSync (the_field a).row
  field_sync = search (tree.field_sync, table.the_sync, claim.the_field_sync, maps, crosses, sendable) depth 60 fits 20000

  pub sync : IsSync (the_row a)
  sync = search (tree.field_sync, table.the_sync, claim.the_field_sync, maps, crosses, sendable) depth 60 fits 20000
