use Rattle.zones.proofs.Rows.{place_left, place_of_new}
use Rattle.zones.proofs.index.change_row.Goals as goal

pub put_in-requires : goal.put_in-requires
put_in-requires c =
    place_left c.args.shelf.now c.take_out-then-not-has_at.new.shelf c.spot_in-spot.result c.spot_on-place.result
    (rw c.spot_on-place.ensures (place_of_new c.args.row c.args.new.now c.args.prepared.now c.in-Some.op c.args.shelf.now c.requires.prepared c.in-Some.is c.requires.place))
    c.take_out-then-not-has_at.ensures
