-- the write stands, and no write that begins before it overlaps another
use Rattle.std.proofs.Common.{◌-◌, ◌^◌}
use Rattle.intervals.proofs.Overlapping.{IsReached}
use Rattle.intervals.proofs.table.OpTable.first_in_turn.Given as goal

abbrev pub invariant-loop-next : goal.invariant-loop-next
invariant-loop-next l = IsReached l.self.ops l.write

abbrev pub decreases-loop-next : goal.decreases-loop-next
decreases-loop-next l = 2 ^ 64 - l.write.begin.0
