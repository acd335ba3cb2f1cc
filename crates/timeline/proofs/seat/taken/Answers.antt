use Rattle.std.proofs.Common.{arith}
use Rattle.timeline.proofs.Seating.{next_seat}
use Rattle.timeline.proofs.seat.taken.Goals as goal

pub loop-number-preserved : goal.loop-number-preserved
loop-number-preserved c = record {
  within = omega (arith, c.loop-number-test.true);
  so_far = next_seat c.args.ops.now c.loop-number.number c.loop-number.tails.items c.take_seat.new.tails.items c.loop-number.seats.items c.push.new.self.items c.in_ok-take_seat.field-0 c.requires (omega (arith, c.loop-number-test.true)) c.in_ok-push.ensures.items c.in_ok-take_seat.ensures c.loop-number.invariant.so_far;
}
