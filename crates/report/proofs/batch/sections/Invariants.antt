-- the batches so far are one batch
use Rattle.std.proofs.Common.{◌≤◌, length}
use Rattle.report.specs.Batch.{IsBatch, first_register}
use Rattle.report.proofs.batch.sections.Given as goal

abbrev pub invariant-loop-batch : goal.invariant-loop-batch
invariant-loop-batch g l = record {
  within : l.batch-index ≤ length l.batch-items;
  whole : IsBatch l.tower l.closed 0 (first_register (length l.tower.registers) l.batch-index) l.whole;
}
