use Rattle.std.proofs.Common.{sym}
use Rattle.zones.specs.AtFirst.{start_of}
use Rattle.zones.proofs.KeyOrder.{has_write}
use Rattle.zones.proofs.Start.{from_start}
use Rattle.zones.proofs.register.Clusters.place.Goals as goal

pub turn_of-turn-requires : goal.turn_of-turn-requires
turn_of-turn-requires c =
    let now = c.args.self.now in
    from_start now.claim now.ops c.args.op.now c.requires.present
    (has_write (start_of now.claim now.ops) now.ops c.requires.faultless c.args.op.now c.requires.present (sym c.if-is_judged.ensures))
