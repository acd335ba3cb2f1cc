use Rattle.intervals.proofs.Spots.{last_place_upto, range_from}
use Rattle.intervals.proofs.ordered_index.OrderedIndex.place_up_to.Goals as goal

pub returns : goal.returns
returns c =
    rw c.of_value.ensures
    (last_place_upto c.args.self.now.places c.args.value c.args.up_to c.in_ok-spot.spot.now c.in_ok-spot.id.now c.next.new.self
    (range_from c.args.self.now.places _ _ _ _ c.spot_at-from.ensures c.in_ok-spot.ensures.steps (c.range.ensures.in_range tt)))
