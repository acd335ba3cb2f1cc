-- A register's book may cross threads, alone and as a field; the search ends by the proofs of its two judges.
use denote.Ref.{NamedLft}
use denote.Param.Send.{IsSend, IsSync, sendable}
use Rattle.std.proofs.Crossing.{crosses}
use Rattle.register_book.specs.contracts.book.RegisterBook.{the_row, the_field}
use Rattle.safe_regular.proofs.Crosses as single
use Rattle.zones.proofs.Crosses as clusters

module _ (a : NamedLft) where
  pub field_send : IsSend (the_field a).row
  field_send = search (single.field_send, clusters.field_send, crosses, sendable) depth 60 fits 20000

  pub send : IsSend (the_row a)
  send = search (single.field_send, clusters.field_send, crosses, sendable) depth 60 fits 20000

  pub field_sync : IsSync (the_field a).row
  field_sync = search (single.field_sync, clusters.field_sync, crosses, sendable) depth 60 fits 20000

  pub sync : IsSync (the_row a)
  sync = search (single.field_sync, clusters.field_sync, crosses, sendable) depth 60 fits 20000
