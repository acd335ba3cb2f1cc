use Rattle.std.proofs.Common.{arith}
use Rattle.intervals.specs.Rising.{HasRoom}
use Rattle.intervals.proofs.moments.move_moments.Goals.{in-Some, in_default}
use Rattle.intervals.proofs.moments.move_moments.Goals as goal

pub enter-requires-clause-room : goal.enter-requires-clause-room
enter-requires-clause-room c =
    let left = c.leave.ensures.kept 2 c.requires.room in
    elim c.match-old.branch [
      | in-Some w ↦ let room = w.leave-in-Some.ensures.kept 2 left in rw w.moments-is (omega (arith, room.0), omega (arith, room.1))
      | in_default w ↦ rw w.moments-is (omega (arith, left.0), omega (arith, left.1))
    ]

pub enter-requires-in-Some-end-clause-room : goal.enter-requires-in-Some-end-clause-room
enter-requires-in-Some-end-clause-room c =
    let left = c.leave.ensures.kept 2 c.requires.room in
    let room : HasRoom c.match-old.moments 2 = elim c.match-old.branch [ in-Some w ↦ rw w.moments-is (w.leave-in-Some.ensures.kept 2 left) | in_default w ↦ rw w.moments-is left ] in
    c.enter.ensures.kept 1 room
