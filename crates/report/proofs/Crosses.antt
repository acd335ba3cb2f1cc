-- The books that an auditor leaves may be read by several threads.
use denote.Ref.{NamedLft}
use denote.Param.Send.{IsSync, sendable}
use Rattle.std.proofs.Crossing.{crosses}
use Rattle.shards.proofs.Crosses.{sync}
use Rattle.shards.specs.contracts.closed.Closed as Closed

pub closed_sync : (a : NamedLft) → IsSync (Closed.the_row a)
closed_sync a = search (sync, crosses, sendable) depth 60 fits 20000
