use Rattle.std.proofs.Common.{◌≡◌, ◌<◌, arith, length, max}
use Rattle.timeline.specs.declared.place.Want.{Want}
use Rattle.timeline.proofs.Placing.{max_cases, put_before_more, put_by_more}
use Rattle.timeline.proofs.place.farthest.Goals as goal

pub loop-number-preserved : goal.loop-number-preserved
loop-number-preserved c =
    let places = c.args.places.now in
    let wants = c.args.wants.now in
    let number = c.loop-number.number in
    let place = c.loop-number.place in
    let next = c.max-place.result in
    let none : Want = record { from = 0; to = 0; least = 0 } in
    let so_far = c.loop-number.invariant in
    let is : next ≡ max place c.wanted.result = c.max-place.ensures in
    let inside : number < length wants = omega (arith, c.loop-number-test.true, c.requires.order.1) in
    let by = max_cases place c.wanted.result next is in
    record {
      from = omega (arith, so_far.from);
      to = omega (arith, c.loop-number-test.true);
      following = omega (arith, so_far.following, is);
      kept = put_before_more places wants c.args.from number place next none (omega (arith, is)) (omega (arith, is, c.wanted.ensures.value)) inside so_far.kept;
      tight = put_by_more places wants c.args.from number c.args.least place next c.wanted.result none so_far.from c.wanted.ensures.value inside by so_far.tight;
      bounded = omega (arith, is, so_far.bounded, c.wanted.ensures.bounded);
    }
