use Rattle.intervals.proofs.Spots.{last_place, range_after}
use Rattle.intervals.proofs.ordered_index.OrderedIndex.place_before.Goals as goal

pub returns : goal.returns
returns c =
    rw c.of_value.ensures
    (last_place c.args.self.now.places c.args.value c.args.limit c.in_ok-spot.spot.now c.in_ok-spot.id.now c.next.new.self
    (range_after c.args.self.now.places _ _ _ _ c.spot_at.ensures c.in_ok-spot.ensures.steps (c.range.ensures.in_range tt)))
