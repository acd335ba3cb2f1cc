use Rattle.std.proofs.Common.{◌-◌, length}
use Rattle.std.specs.Prelude.{map}
use Rattle.register_book.specs.BookModel.{claimed_of}
use Rattle.shards.specs.Plan.{claims_of}
use Rattle.shards.proofs.Opened.{AreOpenedTo}
use Rattle.shards.proofs.shard.open_books.Given as goal

abbrev pub invariant-loop-register : goal.invariant-loop-register
invariant-loop-register l = AreOpenedTo (claims_of l.tower) l.shards l.at l.register (map claimed_of l.books.items)

abbrev pub decreases-loop-register : goal.decreases-loop-register
decreases-loop-register l = length l.tower.registers - l.register
