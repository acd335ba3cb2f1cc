use Rattle.intervals.proofs.Spots.{first_place, range_before}
use Rattle.intervals.proofs.ordered_index.OrderedIndex.place_after.Goals as goal

pub returns : goal.returns
returns c =
    rw c.of_value.ensures
    (first_place c.args.self.now.places c.args.value c.args.from c.in_ok-spot.spot.now c.in_ok-spot.id.now c.next_back.new.self
    (range_before c.args.self.now.places _ _ _ _ c.spot_at-to.ensures c.in_ok-spot.ensures.steps (c.range.ensures.in_range tt)))
