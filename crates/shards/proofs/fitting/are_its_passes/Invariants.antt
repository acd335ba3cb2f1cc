-- the passes so far are the plan's, and no two of one feeder
use Rattle.std.proofs.Common.{take}
use Rattle.shards.specs.Closing.{AreItsPasses}
use Rattle.shards.proofs.fitting.are_its_passes.Given as goal

abbrev pub invariant-loop-i : goal.invariant-loop-i
invariant-loop-i g l = AreItsPasses g.O.Opening.plan (take l.i l.passes)
