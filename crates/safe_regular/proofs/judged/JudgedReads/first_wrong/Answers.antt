use Rattle.std.proofs.Common.{◌∙◌, sym}
use Rattle.safe_regular.proofs.RowsAfter.{first_told, none_told}
use Rattle.safe_regular.proofs.judged.JudgedReads.first_wrong.Goals as goal

pub returns-in_err-row : goal.returns-in_err-row
returns-in_err-row c claim apart are =
    let past = rw c.as_slice.ensures.value at (c.row_at.ensures.none c.in_err-row.was) in
    c.from_residual.ensures ∙ sym (none_told claim c.args.table.now.ops apart c.args.self.now are past)

pub returns : goal.returns
returns c claim apart are =
    let there = rw c.as_slice.ensures.value at c.in_ok-row.ensures.there in
    c.find.ensures ∙ first_told claim c.args.table.now.ops apart c.args.self.now are c.in_ok-row.row there.0 there.1
