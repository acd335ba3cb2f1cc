use Rattle.std.proofs.Common.{◌∙◌, ◌++◌, ℕ, Bool, List, Result, IfOk, ap, subst, string_bytes}
use Rattle.std.specs.declared.alloc.AllocError.{AllocError}
use Rattle.report.specs.declared.batch.Batch.{Batch}
use Rattle.report.specs.Batch.{IsBatch}
use Rattle.report.proofs.Batches.{next_batch}
use Rattle.report.proofs.batch.Batch.append.Goals as goal

pub returns-in_ok-extend_from_slice-in-Ok : goal.returns-in_ok-extend_from_slice-in-Ok
returns-in_ok-extend_from_slice-in-Ok c = λ tower closed first middle last so_far is.
    next_batch c.args.self.now c.in-Ok.batch (record { text = c.push_str.new.self; failing = c.extend_from_slice.new.self })
    (c.in_ok-push_str-in-Ok.ensures.bytes ∙ ap (λ (more : List ℕ). string_bytes c.args.self.now.text ++ more) c.as_str.ensures.value)
    (c.in_ok-extend_from_slice-in-Ok.ensures.items ∙ ap (λ (more : List Bool). c.args.self.now.failing.items ++ more) c.deref.ensures.value)
    tower closed first middle last so_far (subst (λ (batch : Result Batch AllocError). IfOk batch (IsBatch tower closed middle last)) c.in-Ok.is is)
