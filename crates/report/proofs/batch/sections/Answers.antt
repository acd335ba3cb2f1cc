use Rattle.std.proofs.Common.{ℕ, ◌+◌, ◌<◌, List, Result, length, refl, sym, subst, arith}
use Rattle.std.proofs.lemmas.Option.{slice_get_read}
use Rattle.std.specs.declared.alloc.AllocError.{AllocError}
use Rattle.report.specs.declared.batch.Batch.{Batch}
use Rattle.report.specs.Batch.{AreBatches, IsBatch, first_register}
use Rattle.report.proofs.Batches.{batch_at}
use Rattle.report.proofs.batch.sections.Goals as goal

pub loop-batch-preserved : goal.loop-batch-preserved
loop-batch-preserved g c =
    let tower = c.args.tower.now in
    let closed = c.args.closed.now in
    let many = length tower.registers in
    let index = c.loop-batch.batch-index in
    let batches = c.deref-batch-items.result.now in
    let within : index < length batches = omega (arith, c.loop-batch-test.true) in
    record {
      within = omega (arith, within);
      whole = c.in_ok-append.ensures tower closed 0 (first_register many index) (first_register many (index + 1)) c.loop-batch.invariant.whole
          (batch_at tower closed 0 index index batches c.batch-item.result (omega arith) (subst (λ (items : List (Result Batch AllocError)). AreBatches tower closed 0 items) (sym c.deref-batch-items.ensures.value) c.in_ok-batches.ensures.each)
          (slice_get_read batches (length batches) index c.batch-item.result refl within c.batch-item.is));
    }

pub returns : goal.returns
returns g c =
    subst (λ (last : ℕ). IsBatch c.args.tower.now c.args.closed.now 0 last c.loop-batch.whole)
    (omega (arith, c.loop-batch.invariant.within, c.loop-batch-test.false, c.in_ok-batches.ensures.many, c.deref-batch-items.ensures.len))
    c.loop-batch.invariant.whole
