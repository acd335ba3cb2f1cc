use Rattle.std.proofs.Common.{◌/◌, ◌<◌, length, arith}
use Rattle.shards.proofs.Kept.{slot_within, answer_by}
use Rattle.shards.proofs.shard.Shard.answer.Goals as goal

pub index-book-requires : goal.index-book-requires
index-book-requires g c =
    let within : c.args.register.0 / c.args.self.now.shards < length c.args.self.now.books.items = slot_within g.O.Opening.plan c.args.self.now c.args.register.0 c.requires.kept c.requires.here c.requires.known in
    omega (arith, within, c.args.self.now.books.ok.0)

pub returns : goal.returns
returns g c =
    answer_by g.O.Opening.plan c.args.self.now c.args.register.0 c.index-book.result.now _ c.requires.kept c.requires.here c.requires.known
    c.index-book.ensures c.holds.ensures c.len.ensures c.witness-witness.ensures.witness c.witness-witness.ensures.none c.fault_by.ensures c.requires.kept.many
