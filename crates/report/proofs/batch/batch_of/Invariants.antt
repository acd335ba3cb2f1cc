-- the registers so far are a batch
use Rattle.std.proofs.Common.{◌≤◌, ◌+◌, length}
use Rattle.report.specs.Batch.{IsBatch, first_register}
use Rattle.report.proofs.batch.batch_of.Given as goal

abbrev pub invariant-loop-register : goal.invariant-loop-register
invariant-loop-register l = record {
  within : l.register ≤ first_register (length l.tower.registers) (l.number + 1);
  batch : IsBatch l.tower l.closed (first_register (length l.tower.registers) l.number) l.register l.batch;
}
